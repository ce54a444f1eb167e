use Rattle.record_layout.proofs.ReadLaws.{packet_whole_verdict}
use Rattle.record_layout.proofs.laws.packet_is_whole.Goals as goal

pub returns : goal.returns
returns c = packet_whole_verdict
