use Rattle.std.proofs.Common.{◌≡◌, ◌*◌, replicate}
use Rattle.medium_model.specs.State.{Counted, IfTold}
use Rattle.flash_ring.proofs.format.format.Given as goal

abbrev pub invariant-loop-slot : goal.invariant-loop-slot
invariant-loop-slot g l =
    record {
      counted : Counted l.slot (g.M.Medium.state l.initial.medium) (g.M.Medium.state l.medium) ⊥;
      zeros : IfTold (g.M.Medium.state l.medium).content (λ c. c.reads ≡ replicate (272 * l.slot) 0);
    }
