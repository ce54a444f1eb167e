use Rattle.std.proofs.Common.{◌≡◌, drop}
use Rattle.flash_ring.specs.Held.{next_of}
use Rattle.flash_ring.proofs.ring.next_after.Given as goal

abbrev pub invariant-loop-slot : goal.invariant-loop-slot
invariant-loop-slot l = l.next ≡ next_of (drop l.slot l.slots)
