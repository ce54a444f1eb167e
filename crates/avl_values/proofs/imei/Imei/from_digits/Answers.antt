use Rattle.std.proofs.Common.{◌<◌, ◌^◌, arith, rules}
use Rattle.avl_values.proofs.Places.{below-power, pass-more, places-none, power-more, taken-more}
use Rattle.avl_values.proofs.imei.Imei.from_digits.Goals as goal

pub loop-digit-init : goal.loop-digit-init
loop-digit-init c = (omega arith, (λ k d h. absurd (omega arith)), places-none 0)

pub overflow_mul-number : goal.overflow_mul-number
overflow_mul-number c =
    let few : c.loop-digit.number < 10 ^ 14 = below-power c.loop-digit.digit-index c.loop-digit.number (omega arith) c.loop-digit.invariant.0 in
    search rules

pub overflow_add-number : goal.overflow_add-number
overflow_add-number c =
    let few : c.loop-digit.number < 10 ^ 14 = below-power c.loop-digit.digit-index c.loop-digit.number (omega arith) c.loop-digit.invariant.0 in
    search rules

pub loop-digit-preserved : goal.loop-digit-preserved
loop-digit-preserved c = (
  power-more _ _ _ c.loop-digit.invariant.0 (omega arith),
  pass-more _ _ c.loop-digit-test.true (omega arith) (omega arith) c.loop-digit.invariant.1,
  taken-more _ _ _ c.loop-digit-test.true (omega arith) (omega arith) c.loop-digit.invariant.2,
)
