use Rattle.std.proofs.Common.{length, take}
use Rattle.medium_model.specs.State.{Counted}
use Rattle.flash_ring.proofs.Closes.{Shut}
use Rattle.flash_ring.proofs.close.close_slots.Given as goal

abbrev pub invariant-loop-i : goal.invariant-loop-i
invariant-loop-i g l =
    record {
      counted : Counted l.i (g.M.Medium.state l.initial.medium) (g.M.Medium.state l.medium) ⊥;
      shut : Shut (length l.held) l.held (take l.i l.slots) (g.M.Medium.state l.initial.medium).content (g.M.Medium.state l.medium).content;
    }
