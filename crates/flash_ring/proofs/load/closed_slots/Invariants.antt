use Rattle.std.proofs.Common.{◌≡◌, length}
use Rattle.flash_ring.proofs.load.closed_slots.Given as goal

abbrev pub invariant-loop-slot : goal.invariant-loop-slot
invariant-loop-slot l = length l.closed.items ≡ l._slot
