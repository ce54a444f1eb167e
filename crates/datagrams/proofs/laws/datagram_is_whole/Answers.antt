use Rattle.datagrams.proofs.DatagramLaws.{datagram_whole}
use Rattle.datagrams.proofs.laws.datagram_is_whole.Goals as goal

pub returns : goal.returns
returns c = datagram_whole
