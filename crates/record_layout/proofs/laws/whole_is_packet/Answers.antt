use Rattle.record_layout.proofs.ReadLaws.{whole_packet}
use Rattle.record_layout.proofs.laws.whole_is_packet.Goals as goal

pub returns : goal.returns
returns c = whole_packet
