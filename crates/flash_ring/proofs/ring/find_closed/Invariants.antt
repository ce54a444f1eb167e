use Rattle.std.proofs.Common.{◌≡◌, true, take}
use Rattle.flash_ring.specs.Held.{is_full}
use Rattle.flash_ring.proofs.ring.find_closed.Given as goal

abbrev pub invariant-loop-slot : goal.invariant-loop-slot
invariant-loop-slot l = is_full (take l.slot l.slots) ≡ true
