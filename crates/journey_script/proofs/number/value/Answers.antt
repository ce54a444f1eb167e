use Rattle.std.proofs.Common.{arith}
use Rattle.journey_script.proofs.Values.{value_above}
use Rattle.journey_script.proofs.number.value.Goals as goal

pub returns-in_err-checked_mul : goal.returns-in_err-checked_mul
returns-in_err-checked_mul c =
    let above = value_above c.loop-digit.digit-index c.args.digits.now c.loop-digit-test.true in
    rw c.from_residual.ensures (omega (arith, c.in_err-checked_mul.ensures))

pub returns-in_err-n : goal.returns-in_err-n
returns-in_err-n c =
    let above = value_above c.loop-digit.digit-index c.args.digits.now c.loop-digit-test.true in
    rw c.from_residual-in_err-n.ensures (omega (arith, c.in_err-n.ensures))
