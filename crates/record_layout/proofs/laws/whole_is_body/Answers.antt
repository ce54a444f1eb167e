use Rattle.record_layout.proofs.BodyLaws.{judged_body}
use Rattle.record_layout.proofs.laws.whole_is_body.Goals as goal

pub returns : goal.returns
returns c = judged_body
