use Rattle.std.proofs.Common.{ℕ, List, ap, subst, sym}
use Rattle.std.specs.Prelude.{Option}
use Rattle.flash_ring.specs.Held.{Held}
use Rattle.flash_ring.specs.Images.{AreOpen}
use Rattle.flash_ring.specs.Ring.{RingView}
use Rattle.worked_rows.proofs.flash.cut_release.Goals as goal

pub release-requires-clause-opens : goal.release-requires-clause-opens
release-requires-clause-opens c =
    subst (λ (s : List (Option Held)). AreOpen c.as_slice.result.now s) (sym (ap (λ (r : RingView). r.slots) c.arm.ensures.armed))
    (subst (λ (ks : List ℕ). AreOpen ks c.args.ring.now.slots) (sym c.as_slice.ensures.value) c.select-batch.ensures.opens)
