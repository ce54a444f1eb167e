use Rattle.std.proofs.Common.{◌≡◌, ◌+◌, drop}
use Rattle.avl_values.specs.NxElements.{nx_size}
use Rattle.record_writing.proofs.length.nx_fits.Given as goal

abbrev pub invariant-loop-i : goal.invariant-loop-i
invariant-loop-i l = l.room + nx_size (drop l.i l.nx) ≡ l.left + nx_size l.nx
