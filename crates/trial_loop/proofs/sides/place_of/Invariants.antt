use Rattle.std.proofs.Common.{◌≡◌, ◌<◌, ◌==◌, ℕ, false, slice_get, Some}
use Rattle.trial_device.specs.Sides.{Side}
use Rattle.trial_loop.proofs.sides.place_of.Given as goal

abbrev pub invariant-loop-place : goal.invariant-loop-place
invariant-loop-place g l = (n : ℕ) (d : Side) → n < l.place → slice_get l.sides n ≡ Some d → (d.device.imei == l.imei) ≡ false
