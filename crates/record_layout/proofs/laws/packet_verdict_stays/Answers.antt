use Rattle.record_layout.proofs.ReadLaws.{packet_stays}
use Rattle.record_layout.proofs.laws.packet_verdict_stays.Goals as goal

pub returns : goal.returns
returns c = packet_stays
