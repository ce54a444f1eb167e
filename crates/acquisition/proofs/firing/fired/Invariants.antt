use Rattle.std.proofs.Common.{◌≤◌, length, drop}
use Rattle.acquisition.proofs.Together.{FiredSoFar}
use Rattle.acquisition.proofs.firing.fired.Given as goal

abbrev pub invariant-loop-i : goal.invariant-loop-i
invariant-loop-i l = (length l.fired.items ≤ l.i) × (length l.after.items ≤ l.i) × FiredSoFar l.watches l.values l.fired.items l.after.items (drop l.i l.watches) (drop l.i l.values)
