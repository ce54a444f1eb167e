use Rattle.std.proofs.Common.{arith}
use Rattle.command_codecs.proofs.CursorSteps.{first_fails, first_follows}
use Rattle.command_codecs.proofs.cursor.after_first_digit.Goals as goal

pub returns-then-value-le9-clause-follows : goal.returns-then-value-le9-clause-follows
returns-then-value-le9-clause-follows c way total v field n = first_follows way total c.args.text c.args.value v field n c.if-value-le9.true

pub returns-else-value-le9-clause-follows : goal.returns-else-value-le9-clause-follows
returns-else-value-le9-clause-follows c way total v field n = first_fails way total c.args.text c.args.value v field n (omega (arith, c.if-value-le9.false))
