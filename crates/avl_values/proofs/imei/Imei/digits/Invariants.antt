use Rattle.std.proofs.Common.{◌≡◌, ◌++◌, drop, length}
use Rattle.avl_values.specs.Imei.{decimal_places}
use Rattle.avl_values.proofs.imei.Imei.digits.Given as goal

abbrev pub invariant-loop-i : goal.invariant-loop-i
invariant-loop-i l = (length l.digits ≡ 15) × (decimal_places 15 l.fn.self ≡ decimal_places l.i l.rest ++ drop l.i l.digits)
