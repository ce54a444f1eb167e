use Rattle.std.proofs.Common.{◌≡◌, ◌<◌, ◌^◌, take}
use Rattle.std.specs.List.{AllPass}
use Rattle.avl_values.specs.Imei.{decimal_places, is_digit}
use Rattle.avl_values.proofs.imei.Imei.from_digits.Given as goal

abbrev pub invariant-loop-digit : goal.invariant-loop-digit
invariant-loop-digit l = (l.number < 10 ^ l.digit-index) × AllPass is_digit (take l.digit-index l.digits) × (decimal_places l.digit-index l.number ≡ take l.digit-index l.digits)
