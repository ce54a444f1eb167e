use Rattle.std.proofs.Common.{◌≡◌, length, drop}
use Rattle.acquisition.proofs.Together.{FitSoFar}
use Rattle.acquisition.proofs.elements.values_fit.Given as goal

abbrev pub invariant-loop-i : goal.invariant-loop-i
invariant-loop-i l = (length l.ios ≡ length l.values) × FitSoFar l.ios l.values (drop l.i l.ios) (drop l.i l.values)
