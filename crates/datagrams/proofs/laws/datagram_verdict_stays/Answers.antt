use Rattle.datagrams.proofs.DatagramLaws.{datagram_stays}
use Rattle.datagrams.proofs.laws.datagram_verdict_stays.Goals as goal

pub returns : goal.returns
returns c = datagram_stays
