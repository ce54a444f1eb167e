-- A batch's slots are those of entries, each once.
use Rattle.std.proofs.Common.{◌∙◌, ℕ, List, ap, sym, subst}
use Rattle.flash_ring.specs.Entries.{selected}
use Rattle.flash_ring.specs.Images.{AreOpen, AreDistinct}
use Rattle.flash_ring.specs.Ring.{RingView}
use Rattle.flash_ring.proofs.HeldRecords.{selected-open, selected-distinct}
use Rattle.flash_ring.proofs.ring.Ring.select.Goals as goal

pub returns-clause-opens : goal.returns-clause-opens
returns-clause-opens g c =
    let slots = c.args.self.now.slots in
    let P : List ℕ → Type 0 = λ ks. AreOpen ks slots in
    subst P (sym (c.select.ensures ∙ ap (selected c.args.order c.args.room) (c.deref.ensures.value ∙ ap (λ (v : RingView). v.slots) c.self.view_is))) (selected-open c.args.order c.args.room slots)

pub returns-clause-distinct : goal.returns-clause-distinct
returns-clause-distinct g c =
    let slots = c.args.self.now.slots in
    subst AreDistinct (sym (c.select.ensures ∙ ap (selected c.args.order c.args.room) (c.deref.ensures.value ∙ ap (λ (v : RingView). v.slots) c.self.view_is))) (selected-distinct c.args.order c.args.room slots)
