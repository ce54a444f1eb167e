-- A sequence that is held is below the next one.
use Rattle.std.proofs.Common.{◌∙◌, None, ap, sym, arith}
use Rattle.std.proofs.lemmas.List.{get_or_read}
use Rattle.flash_ring.specs.Held.{Held}
use Rattle.flash_ring.proofs.Rings.{seq_below}
use Rattle.flash_ring.proofs.ring.next_after.Goals as goal

pub overflow_add-held-inside : goal.overflow_add-held-inside
overflow_add-held-inside c =
    let slots = c.args.slots.now in
    let read = get_or_read slots _ _ (omega arith) c.index-slots-slot.is None in
    let below = seq_below slots _ c.in-Some.held (omega arith) (sym read ∙ c.in-Some.is) in
    let seq = ap (λ (h : Held). h.seq) c.held.view_is in
    omega (arith, c.requires)
