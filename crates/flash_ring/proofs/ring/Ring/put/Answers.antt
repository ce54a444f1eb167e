-- The ring is what the four calls left.
use Rattle.std.proofs.Common.{◌≡◌, ◌+◌, ◌*◌, ◌≤◌, ◌∙◌, List, length, set, take, true, Option, Some, None, ap, sym, subst, refl, arith, mul-le-mul_left}
use Rattle.std.proofs.lemmas.Option.{slice_get_within}
use Rattle.avl_values.specs.Viewed.{record_of}
use Rattle.medium_model.specs.State.{IfTold}
use Rattle.flash_ring.specs.Held.{AreBelow, Held, IsSoundHeld, first_closed, is_full, put_in}
use Rattle.flash_ring.specs.Images.{IsSettled}
use Rattle.medium_model.specs.Images.{IsEither}
use Rattle.flash_ring.specs.Ring.{RingView, EachHolds}
use Rattle.flash_ring.proofs.Queues.{queue-stored, queue_less}
use Rattle.flash_ring.proofs.Rings.{passed, closed-there, either_up, durable_up, ring-stored}
use Rattle.flash_ring.proofs.ring.Ring.put.Goals as goal

pub returns-then-self-clause-images : goal.returns-then-self-clause-images
returns-then-self-clause-images g c =
    let h : Held = record { seq = c.args.self.now.next; rec = record_of c.args.rec.now } in
    let P : RingView → Type 0 = λ v. EachHolds v (IsEither v.slots (put_in v.slots h)) in
    subst P c.self.view_is (either_up _ _ (c.self.invariant.0.up (ap (λ (v : RingView). v.down) c.self.view_is ∙ c.requires.up)))

pub store-requires-clause-ready : goal.store-requires-clause-ready
store-requires-clause-ready g c =
    let closed = closed-there c.self.inside.slots.items c.deref.result.now c.self.inside.slots.items c.in-Some.slot c.deref.ensures.value refl c.in-Some.ensures.first c.in-Some.ensures.room in
    let low = slice_get_within c.self.inside.slots.items c.in-Some.slot None closed in
    let m : 272 * (c.in-Some.slot + 1) ≤ 272 * length c.self.inside.slots.items = mul-le-mul_left 272 (omega arith) in
    omega (arith, m, c.self.invariant.0.ready)

pub store-requires-clause-closed : goal.store-requires-clause-closed
store-requires-clause-closed g c =
    closed-there c.self.inside.slots.items c.deref.result.now c.deref-2.result.now c.in-Some.slot c.deref.ensures.value c.deref-2.ensures.value c.in-Some.ensures.first c.in-Some.ensures.room

pub index_mut-requires : goal.index_mut-requires
index_mut-requires g c =
    let closed = closed-there c.self.inside.slots.items c.deref.result.now c.self.inside.slots.items c.in-Some.slot c.deref.ensures.value refl c.in-Some.ensures.first c.in-Some.ensures.room in
    let low = slice_get_within c.self.inside.slots.items c.in-Some.slot None closed in
    omega (arith, c.self.inside.slots.ok.0)

pub invariant_of-self-2 : goal.invariant_of-self-2
invariant_of-self-2 g c =
    let up = ap (λ (v : RingView). v.down) c.self.view_is ∙ c.requires.up in
    let value = c.new-held.ensures.value in
    let sound = subst IsSoundHeld (sym value) (record { seq = omega (arith, c.self.invariant.0.next); whole = c.requires.is_record; few = c.new-held.ensures.few }) in
    let P : List (Option Held) → Type 0 = λ s. IfTold (g.M.Medium.state c.store.new.medium).content (IsSettled (length s) (set s c.in-Some.slot (Some c.new-held.result))) in
    let slots = c.self.inside.slots.items in
    let room = ap is_full (sym c.deref.ensures.value) ∙ c.in-Some.ensures.room in
    let first = c.in-Some.ensures.first ∙ ap first_closed c.deref.ensures.value in
    let below = subst (λ n. AreBelow n slots) (sym (ap (λ (h : Held). h.seq) value)) (c.self.invariant.0.up up).below in (
      ring-stored _ _ c.in-Some.slot _ c.self.invariant.0 up (ap (λ (h : Held). h.seq) value) c.if-self.false sound c.store.ensures.counted.ready
          (subst P c.deref-2.ensures.value (passed c.store.result c.is_err.result c.is_err.ensures.value c.if-is_err.false c.store.ensures.settled)),
      queue-stored slots c.self.inside.queue.items _ _ _ _ _ c.in-Some.slot c.new-held.result _ _ c.self.invariant.1 up room first below c.push.ensures.items c.push.ensures.capacity refl,
    )

pub push-requires : goal.push-requires
push-requires g c =
    let up = ap (λ (v : RingView). v.down) c.self.view_is ∙ c.requires.up in
    let room = ap is_full (sym c.deref.ensures.value) ∙ c.in-Some.ensures.room in
    let has = ap length (c.self.invariant.1.has up) in
    omega (arith, has, queue_less c.self.inside.slots.items room, c.self.invariant.1.fits, c.self.inside.queue.ok.0)

pub find_closed-requires-clause-opened : goal.find_closed-requires-clause-opened
find_closed-requires-clause-opened g c =
    let up = ap (λ (v : RingView). v.down) c.self.view_is ∙ c.requires.up in
    subst (λ (s : List (Option Held)). is_full (take c.self.inside.opened s) ≡ true) (sym c.deref.ensures.value) (c.self.invariant.1.opens up)

pub returns-clause-durable : goal.returns-clause-durable
returns-clause-durable g c =
    let up = ap (λ (v : RingView). v.down) c.self.view_is ∙ c.requires.up in
    let value = c.new-held.ensures.value in
    let sound = subst IsSoundHeld (sym value) (record { seq = omega (arith, c.self.invariant.0.next); whole = c.requires.is_record; few = c.new-held.ensures.few }) in
    let P : List (Option Held) → Type 0 = λ s. IfTold (g.M.Medium.state c.store.new.medium).content (IsSettled (length s) (set s c.in-Some.slot (Some c.new-held.result))) in
    durable_up _ ((ring-stored _ _ c.in-Some.slot _ c.self.invariant.0 up (ap (λ (h : Held). h.seq) value) c.if-self.false sound c.store.ensures.counted.ready
    (subst P c.deref-2.ensures.value (passed c.store.result c.is_err.result c.is_err.ensures.value c.if-is_err.false c.store.ensures.settled))).up up) up
