use Rattle.std.proofs.Common.{◌≡◌, take}
use Rattle.std.specs.List.{sum_by}
use Rattle.avl_values.proofs.nx_list.total_length.Given as goal

abbrev pub invariant-loop-length : goal.invariant-loop-length
invariant-loop-length l = l.total ≡ sum_by (λ h. h.1) (take l.length-index l.heads)
