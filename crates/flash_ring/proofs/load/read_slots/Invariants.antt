use Rattle.std.proofs.Common.{◌≡◌}
use Rattle.medium_model.specs.State.{Counted}
use Rattle.flash_ring.proofs.load.read_slots.Given as goal
use Rattle.flash_ring.proofs.Loads.{HasRead}

abbrev pub invariant-loop-slot : goal.invariant-loop-slot
invariant-loop-slot g l =
    record {
      counted : Counted l.slot (g.M.Medium.state l.initial.medium) (g.M.Medium.state l.medium) ⊥;
      content : (g.M.Medium.state l.medium).content ≡ (g.M.Medium.state l.initial.medium).content;
      has_read : HasRead l.slot (g.M.Medium.state l.initial.medium).content l.slots;
    }
