use Rattle.std.proofs.Common.{◌≡◌, ◌≤◌, length, drop}
use Rattle.acquisition.proofs.Together.{ElementsSoFar}
use Rattle.acquisition.proofs.elements.elements.Given as goal

abbrev pub invariant-loop-i : goal.invariant-loop-i
invariant-loop-i l = (length l.ios ≡ length l.values) × (length l.out.items ≤ l.i) × ElementsSoFar l.ios l.values l.out.items (drop l.i l.ios) (drop l.i l.values)
