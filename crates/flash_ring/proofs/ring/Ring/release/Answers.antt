-- The ring is what the calls left.
use Rattle.std.proofs.Common.{◌∙◌, List, Option, ap, length, subst}
use Rattle.medium_model.specs.State.{IfTold}
use Rattle.flash_ring.specs.Held.{Held, closed_all}
use Rattle.flash_ring.specs.Images.{IsSettled}
use Rattle.flash_ring.specs.Ring.{RingView}
use Rattle.flash_ring.proofs.Closes.{length-closed_all}
use Rattle.flash_ring.proofs.Queues.{queue-closed}
use Rattle.flash_ring.proofs.Rings.{passed, durable_up, ring-closed}
use Rattle.flash_ring.proofs.ring.Ring.release.Goals as goal

pub invariant_of-self-2 : goal.invariant_of-self-2
invariant_of-self-2 g c =
    let up = ap (λ (v : RingView). v.down) c.self.view_is ∙ c.requires.up in
    let P : List (Option Held) → Type 0 = λ s. IfTold (g.M.Medium.state c.close_slots.new.medium).content (IsSettled (length s) (closed_all c.args.slots.now s)) in
    let slots = c.self.inside.slots.items in
    let size = ap length c.close_all.ensures.closed ∙ length-closed_all c.args.slots.now slots in (
      ring-closed _ _ c.args.slots.now _ c.self.invariant.0 up c.close_all.ensures.closed c.close_slots.ensures.counted.ready
          (subst P c.deref.ensures.value (passed c.close_slots.result c.is_err.result c.is_err.ensures.value c.if-is_err.false c.close_slots.ensures.settled)),
      queue-closed slots _ _ _ _ _ _ size c.self.invariant.1.fits c.close_all.ensures.capacity c.close_all.ensures.queue c.close_all.ensures.opened,
    )

pub returns-clause-durable : goal.returns-clause-durable
returns-clause-durable g c =
    let up = ap (λ (v : RingView). v.down) c.self.view_is ∙ c.requires.up in
    let P : List (Option Held) → Type 0 = λ s. IfTold (g.M.Medium.state c.close_slots.new.medium).content (IsSettled (length s) (closed_all c.args.slots.now s)) in
    durable_up _ ((ring-closed _ _ c.args.slots.now _ c.self.invariant.0 up c.close_all.ensures.closed c.close_slots.ensures.counted.ready
    (subst P c.deref.ensures.value (passed c.close_slots.result c.is_err.result c.is_err.ensures.value c.if-is_err.false c.close_slots.ensures.settled))).up up) up
