use Rattle.journey_script.proofs.FieldLemmas.{some_left}
use Rattle.journey_script.proofs.fields.Fields.is_empty.Goals as goal

pub returns-in-Some : goal.returns-in-Some
returns-in-Some c = rw (← c.self.view_is, c.in-Some.is) (some_left c.in-Some.field-0.now)
