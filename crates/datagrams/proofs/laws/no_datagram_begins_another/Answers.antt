use Rattle.datagrams.proofs.DatagramLaws.{none_begins_datagram}
use Rattle.datagrams.proofs.laws.no_datagram_begins_another.Goals as goal

pub returns : goal.returns
returns c = none_begins_datagram
