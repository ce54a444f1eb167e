use Rattle.datagrams.proofs.tests.written_again.Goals as goal

pub write_datagram-requires : goal.write_datagram-requires
write_datagram-requires c = (c.in-Ok.ensures.datagram.head, c.in-Ok.ensures.datagram.of_body)
