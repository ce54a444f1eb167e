use Rattle.datagrams.proofs.DatagramLaws.{whole_datagram}
use Rattle.datagrams.proofs.laws.whole_is_datagram.Goals as goal

pub returns : goal.returns
returns c = whole_datagram
