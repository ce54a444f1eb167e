use Rattle.std.proofs.Common.{◌≡◌, ◌≤◌, ◌++◌, [], length, drop}
use Rattle.acquisition.specs.Firing.{watched_by}
use Rattle.acquisition.proofs.firing.watches.Given as goal

abbrev pub invariant-loop-s : goal.invariant-loop-s
invariant-loop-s l = (length l.out.items ≤ l.s-index) × (l.out.items ++ watched_by (drop l.s-index l.s-items) [] ≡ watched_by l.s-items [])
