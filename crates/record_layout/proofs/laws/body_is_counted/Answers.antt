use Rattle.record_layout.proofs.BodyLaws.{body_counted}
use Rattle.record_layout.proofs.laws.body_is_counted.Goals as goal

pub returns : goal.returns
returns c = body_counted
