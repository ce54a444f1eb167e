-- A full ring loses its oldest record, and another keeps all.
use Rattle.std.proofs.Common.{◌∙◌, ℕ, OnOk, [], ◌∷◌, List, Option, ap, sym, subst}
use Rattle.std.proofs.lemmas.Result.{on_ok_weaker}
use Rattle.flash_ring.specs.Held.{Held, is_full}
use Rattle.flash_ring.specs.Images.{MayClose, OthersStay, reached}
use Rattle.medium_model.specs.Images.{IsEither}
use Rattle.flash_ring.specs.Entries.{IsOldest, entries_of, first_slot, with_room}
use Rattle.avl_values.specs.declared.order.Order.TheVariants.{Oldest}
use Rattle.flash_ring.specs.Ring.{RingView}
use Rattle.flash_ring.proofs.Closes.{closes-one, holds-map}
use Rattle.flash_ring.proofs.HeldRecords.{others-same}
use Rattle.flash_ring.proofs.Rings.{oldest_low, oldest_room}
use Rattle.flash_ring.proofs.ring.Ring.make_room.Goals as goal

pub returns-in-Some-clause-has_room : goal.returns-in-Some-clause-has_room
returns-in-Some-clause-has_room g c =
    let P : List (Option Held) → Type 0 = λ s. IsOldest s c.in-Some.slot in
    let old = subst P (c.deref.ensures.value ∙ ap (λ (v : RingView). v.slots) c.self.view_is) c.in-Some.ensures.oldest in
    on_ok_weaker c.release.result (λ closed. ap (λ (v : RingView). is_full v.slots) closed ∙ oldest_room c.args.self.now.slots c.in-Some.slot old) c.release.ensures.closed

pub returns-in-Some-clause-images : goal.returns-in-Some-clause-images
returns-in-Some-clause-images g c =
    let P : List (Option Held) → Type 0 = λ s. IsOldest s c.in-Some.slot in
    let slots = c.args.self.now.slots in
    let old = subst P (c.deref.ensures.value ∙ ap (λ (v : RingView). v.slots) c.self.view_is) c.in-Some.ensures.oldest in
    holds-map _ _ (MayClose (reached c.args.self.now.medium.left (c.in-Some.slot ∷ [])) slots) (IsEither slots (with_room slots))
    (λ left may. let Q : List (Option Held) → Type 0 = λ w. IsEither slots w left in
    subst Q (sym old.closes) (closes-one c.args.self.now.medium.left c.in-Some.slot slots left (oldest_low slots c.in-Some.slot old) may))
    c.release.ensures.images

pub returns-in-None-clause-others : goal.returns-in-None-clause-others
returns-in-None-clause-others g c = others-same (first_slot (entries_of Oldest c.args.self.now.slots) ∷ []) c.args.self.now.medium.content

pub returns-in-Some-clause-others : goal.returns-in-Some-clause-others
returns-in-Some-clause-others g c =
    let P : List (Option Held) → Type 0 = λ s. IsOldest s c.in-Some.slot in
    let old = subst P (c.deref.ensures.value ∙ ap (λ (v : RingView). v.slots) c.self.view_is) c.in-Some.ensures.oldest in
    let Q : ℕ → Type 0 = λ k. OnOk c.release.result (OthersStay (k ∷ []) c.args.self.now.medium.content c.release.new.self.medium.content) in
    subst Q old.is c.release.ensures.others
