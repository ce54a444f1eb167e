use Rattle.std.proofs.Common.{◌≡◌, ◌+◌, ◌≤◌}
use Rattle.worked_rows.proofs.frames.push_single.Given as goal

abbrev pub invariant-loop-i : goal.invariant-loop-i
invariant-loop-i g l = (l.told.steps ≤ l.i) × (l.steps ≡ l.initial.steps + l.told.steps)
