use Rattle.record_layout.proofs.ReadLaws.{none_begins_packet}
use Rattle.record_layout.proofs.laws.no_packet_begins_another.Goals as goal

pub returns : goal.returns
returns c = none_begins_packet
