use Rattle.std.proofs.Common.{◌≡◌, take}
use Rattle.journey_script.specs.Numbers.{value_of}
use Rattle.journey_script.proofs.number.value.Given as goal

abbrev pub invariant-loop-digit : goal.invariant-loop-digit
invariant-loop-digit l = l.n ≡ value_of (take l.digit-index l.digits)
