-- The selection is a batch.
use Rattle.std.proofs.Common.{◌≡◌, ◌∙◌, List, [], Option, length, ap, sym, subst}
use Rattle.flash_ring.specs.Entries.{held_of}
use Rattle.flash_ring.specs.Held.{Held}
use Rattle.tracker_session.specs.Trackers.{TrackerView}
use Rattle.tracker_session.specs.Packs.{AreBatch}
use Rattle.tracker_session.proofs.Selecting.{batch-selected, nothing-selected}
use Rattle.tracker_session.proofs.tracker.Tracker.next_batch.Goals as goal

pub write_batch-requires-clause-batch : goal.write_batch-requires-clause-batch
write_batch-requires-clause-batch g c =
    let slots = c.self.inside.ring.slots in
    subst (AreBatch slots) (sym (c.deref.ensures.0 ∙ c.select-self-inside.ensures.batch)) (batch-selected c.self.inside.order slots)

pub returns-clause-nothing : goal.returns-clause-nothing
returns-clause-nothing g c =
    let slots = c.self.inside.ring.slots in
    let talking = ap (λ (v : TrackerView). v.talking) c.self.view_is ∙ c.requires.talking in
    let durable = c.select-self-inside.ensures.durable (c.self.invariant.0.talk talking).up in
    let P : List (Option Held) → Type 0 = λ s. (c.len.result ≡ 0 → held_of s ≡ []) × (held_of s ≡ [] → c.len.result ≡ 0) in
    subst P (ap (λ (v : TrackerView). v.ring.slots) c.self.view_is)
    (nothing-selected c.self.inside.order slots c.len.result durable.sound (c.len.ensures.value ∙ ap length c.select-self-inside.ensures.batch))
