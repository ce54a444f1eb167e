use Rattle.record_layout.proofs.BodyLaws.{body_judged}
use Rattle.record_layout.proofs.laws.body_is_whole.Goals as goal

pub returns : goal.returns
returns c = body_judged
