use Rattle.std.proofs.Common.{sym}
use Rattle.field_machine.proofs.by_number.ByNumberReading.read.Goals as goal

pub returns-in-Err-clause-follows : goal.returns-in-Err-clause-follows
returns-in-Err-clause-follows g c here stand = c.in-Err.ensures.follows here c.args.field.now stand c.requires (λ few. sym (c.number.ensures.value few))
