use Rattle.std.proofs.Common.{◌-◌, arith}
use Rattle.command_codecs.proofs.CursorSteps.{digits_end, digits_fail, digits_follow}
use Rattle.command_codecs.proofs.cursor.after_digits.Goals as goal

pub returns-then-value-gt9-clause-follows : goal.returns-then-value-gt9-clause-follows
returns-then-value-gt9-clause-follows c way total v field n = digits_fail way total c.args.behind c.args.text c.args.value v field n (λ h l. omega (arith, c.if-value-gt9.true, h))

pub returns-then-value-gt9-2-clause-follows : goal.returns-then-value-gt9-2-clause-follows
returns-then-value-gt9-2-clause-follows c way total v field n = digits_fail way total c.args.behind c.args.text c.args.value v field n (λ h l. omega (arith, c.if-value-gt9-2.true, l))

pub returns-then-behind-eq0-clause-follows : goal.returns-then-behind-eq0-clause-follows
returns-then-behind-eq0-clause-follows c way total v field n = digits_end way total c.args.behind c.args.text c.args.value v field n (omega (arith, c.if-value-gt9.false)) (omega (arith, c.if-value-gt9-2.false)) (omega (arith, c.if-behind-eq0.true))

pub returns-else-behind-eq0-clause-follows : goal.returns-else-behind-eq0-clause-follows
returns-else-behind-eq0-clause-follows c way total v field n = digits_follow way total c.args.behind (c.args.behind - 1) c.args.text c.args.value v field n (omega (arith, c.if-value-gt9.false)) (omega (arith, c.if-value-gt9-2.false)) (omega (arith, c.if-behind-eq0.false))
