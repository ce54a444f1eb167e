use Rattle.record_layout.proofs.ReadLaws.{records_read}
use Rattle.record_layout.proofs.laws.records_are_read.Goals as goal

pub returns : goal.returns
returns c = records_read
