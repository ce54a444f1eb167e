-- One record stored, or cut, in the midst of a `fix` line.
use Rattle.std.proofs.Common.{◌≡◌, ◌⊎◌, inl, inr, ℕ, ◌+◌, ◌*◌, ◌≤◌, Bool, true, false, List, [], ◌∷◌, ◌++◌, length, Option, refl, sym, ap, ◌∙◌, subst, arith, length-append}
use Rattle.std.specs.List.{All, Any, Contains}
use Rattle.std.proofs.lemmas.Bool.{false≢true}
use Rattle.std.proofs.lemmas.List.{get_or_append_left, get_or_at}
use Rattle.std.proofs.lemmas.List.Elements.{All-push, All-weaker, Contains-append_left, Contains-push}
use Rattle.avl_values.specs.Record.{Record}
use Rattle.flash_ring.specs.Entries.{held_of, with_room}
use Rattle.flash_ring.specs.Held.{Held, IsPart, next_of}
use Rattle.flash_ring.specs.Ring.{EachHolds, RingView}
use Rattle.tracker_session.specs.Keeping.{KeepsLeft, as_before, held_with, keep_calls, with_record, without_oldest}
use Rattle.trial_model.specs.Cover.{IsBelow}
use Rattle.trial_model.specs.Decisions.{Decision, LineProgress, decide_one, records_decided, store_cost}
use Rattle.trial_model.specs.Load.{one_more}
use Rattle.record_lists.specs.EachOnce.{IsOnce}
use Rattle.record_lists.specs.SameRecord.{is_same}
use Rattle.record_lists.proofs.EachOnce.{once-add}
use Rattle.record_lists.proofs.SameRecord.{records-tell}
use Rattle.trial_model.specs.RecordLists.{add_once, first_places}
use Rattle.trial_device.specs.Midway.{AreListsRight, IsMidway, IsPaced}
use Rattle.trial_device.specs.Sides.{AreEvicted, AreHeldRight, IsElsewhere, Side}
use Rattle.trial_device.specs.Storing.{IsCutLater, IsCutNow, IsStored, Stores, cut_later, cut_now, stored, with_oldest}
use Rattle.trial_device.proofs.Evictions.{evicted-later, evicted-oldest}
use Rattle.trial_device.proofs.Holding.{decided-push, right-next}
use Rattle.trial_device.proofs.Images.{below-next, durable-each, each-weaker, every-was}
use Rattle.trial_device.proofs.Onces.{add-all, add-has, add-keeps, first_places-push}
use Rattle.trial_device.proofs.Paces.{pace-failed, pace-later, pace-passed}
use Rattle.trial_device.proofs.Parts.{part-push, part-then, part-wider}
use Rattle.trial_device.proofs.Slots.{calls-high, calls-low, listed-or-held, oldest-keeps, oldest-once, room-cases, room-count, room-most, room-part}

any-later : (P : Decision → Type 0) (ds : List Decision) (d : Decision) → Any P ds → Any P (ds ++ d ∷ [])
any-later P ds d any = (any.0, any.1, (let low = any.2 in omega (arith, length-append ds (d ∷ []))), get_or_append_left ds (d ∷ []) any.1 any.0 any.2 ∙ any.3, any.4)

any-last : (P : Decision → Type 0) (ds : List Decision) (d : Decision) → P d → Any P (ds ++ d ∷ [])
any-last P ds d at = (length ds, d, omega (arith, length-append ds (d ∷ [])), get_or_at ds d [] d (length ds) refl, at)

-- the records that may have been cut, one decision later
only-later : (ds : List Decision) (d : Decision) (cut : List Record) → All (λ r. Any (λ e. IsBelow e.cover e.cost × (e.rec ≡ r)) ds) cut → All (λ r. Any (λ e. IsBelow e.cover e.cost × (e.rec ≡ r)) (ds ++ d ∷ [])) cut
only-later ds d cut every =
    All-weaker (λ r. Any (λ e. IsBelow e.cover e.cost × (e.rec ≡ r)) ds) (λ r. Any (λ e. IsBelow e.cover e.cost × (e.rec ≡ r)) (ds ++ d ∷ []))
    (λ r any. any-later (λ e. IsBelow e.cover e.cost × (e.rec ≡ r)) ds d any) cut every

-- The side before, and the decision that is stored.
module _ (heard : List Record) (cover : Option ℕ) (m : LineProgress) (d : Side) (r : Record) (h : IsMidway heard cover m d) where
  abbrev decision : Decision
  decision = record { rec = r; number = m.number; load = m.load; cover = cover; cost = m.cost + store_cost d.device.slots m.load }

  -- what it decides is listed as acquired
  acquired-next : add_once d.acquired r ≡ first_places (records_decided (m.decisions ++ decision ∷ []))
  acquired-next = ap (λ xs. add_once xs r) h.lists.acquired ∙ sym (first_places-push (records_decided m.decisions) r) ∙ ap first_places (sym (decided-push m.decisions decision))

  most-next : one_more d.device.slots m.load ≤ d.device.slots
  most-next = omega arith

  evicted-next : AreEvicted d.device.slots (m.decisions ++ decision ∷ []) d.overwritten
  evicted-next = evicted-later d.device.slots m.decisions decision d.overwritten h.lists.overwritten

  -- the oldest of a full ring
  evicted-full : d.ring.down ≡ false → AreEvicted d.device.slots (m.decisions ++ decision ∷ []) (with_oldest d.ring d.overwritten)
  evicted-full up = elim (room-cases d.ring.slots) as (λ _. AreEvicted d.device.slots (m.decisions ++ decision ∷ []) (with_oldest d.ring d.overwritten)) [
    | inl full ↦
        (let right = h.lists.held up in
        let few = right.few in
        let most = h.lists.most in
        let count = full.count ∙ h.lists.slots in
        rw full.full (evicted-oldest d.device.slots m.decisions decision (held_of d.ring.slots) d.overwritten h.lists.overwritten right.decided count (omega arith)))
    | inr room ↦ rw room.full evicted-next
  ]

  -- A side after it: what the side before listed is listed, and so is the oldest record of a full ring.
  module _ (N : Side) (overwritten : (x : Record) → Contains (with_oldest d.ring d.overwritten) x → Contains N.overwritten x) (cut : (x : Record) → Contains d.cut x → Contains N.cut x) where
    elsewhere-next : (x : Record) → IsElsewhere heard d x → IsElsewhere heard N x
    elsewhere-next x gone = elim gone as (λ _. IsElsewhere heard N x) [
      | inl there ↦ inl there
      | inr rest ↦ elim rest as (λ _. IsElsewhere heard N x) [
        | inl old ↦ inr (inl (overwritten x (oldest-keeps d.ring d.overwritten x old)))
        | inr old ↦ inr (inr (cut x old))
      ]
    ]

    -- slots that hold what was held before
    right-before : (left : List (Option Held)) → AreHeldRight m.decisions m.load (IsElsewhere heard d) d.ring.slots → Contains N.cut r → held_of left ≡ held_of d.ring.slots → next_of left ≤ length m.decisions
        → AreHeldRight (m.decisions ++ decision ∷ []) (one_more d.device.slots m.load) (IsElsewhere heard N) left
    right-before left right listed same next =
        let few = right.few in
        let most = h.lists.most in
        let count = ap length same in
        right-next m.decisions decision m.load (one_more d.device.slots m.load) (IsElsewhere heard d) (IsElsewhere heard N) d.ring.slots left right elsewhere-next
        (subst (λ xs. IsPart xs (records_decided m.decisions ++ r ∷ [])) (sym same) (part-wider (held_of d.ring.slots) (records_decided m.decisions) (r ∷ []) right.decided))
        (omega arith) (omega arith) (λ x has. inl (subst (λ xs. Contains xs x) (sym same) has)) (inr (inr (inr listed)))

    -- slots with room made, but without the record
    right-room : (left : List (Option Held)) → AreHeldRight m.decisions m.load (IsElsewhere heard d) d.ring.slots → Contains N.cut r → held_of left ≡ held_of (with_room d.ring.slots) → next_of left ≤ length m.decisions
        → AreHeldRight (m.decisions ++ decision ∷ []) (one_more d.device.slots m.load) (IsElsewhere heard N) left
    right-room left right listed same next =
        let few = right.few in
        let most = h.lists.most in
        let count = ap length same in
        let less = room-most d.ring.slots in
        let part = part-then (held_of (with_room d.ring.slots)) (held_of d.ring.slots) (records_decided m.decisions) (room-part d.ring.slots) right.decided in
        let old : (x : Record) → Contains (held_of d.ring.slots) x → Contains (held_of left) x ⊎ IsElsewhere heard N x = λ x has.
        elim (listed-or-held d.ring d.overwritten x has) as (λ _. Contains (held_of left) x ⊎ IsElsewhere heard N x) [
          | inl held ↦ inl (subst (λ xs. Contains xs x) (sym same) held)
          | inr first ↦ inr (inr (inl (overwritten x first)))
        ] in
        right-next m.decisions decision m.load (one_more d.device.slots m.load) (IsElsewhere heard d) (IsElsewhere heard N) d.ring.slots left right elsewhere-next
        (subst (λ xs. IsPart xs (records_decided m.decisions ++ r ∷ [])) (sym same) (part-wider (held_of (with_room d.ring.slots)) (records_decided m.decisions) (r ∷ []) part))
        (omega arith) (omega arith) old (inr (inr (inr listed)))

    -- slots with the record
    right-with : (left : List (Option Held)) → AreHeldRight m.decisions m.load (IsElsewhere heard d) d.ring.slots → held_of left ≡ held_with d.ring r → next_of left ≤ length m.decisions + 1
        → AreHeldRight (m.decisions ++ decision ∷ []) (one_more d.device.slots m.load) (IsElsewhere heard N) left
    right-with left right same next =
        let few = right.few in
        let most = h.lists.most in
        let some = h.lists.some in
        let size = h.lists.slots in
        let count = ap length same ∙ length-append (held_of (with_room d.ring.slots)) (r ∷ []) in
        let less = room-most d.ring.slots in
        let room = room-count d.ring.slots (omega arith) in
        let part = part-then (held_of (with_room d.ring.slots)) (held_of d.ring.slots) (records_decided m.decisions) (room-part d.ring.slots) right.decided in
        let old : (x : Record) → Contains (held_of d.ring.slots) x → Contains (held_of left) x ⊎ IsElsewhere heard N x = λ x has.
        elim (listed-or-held d.ring d.overwritten x has) as (λ _. Contains (held_of left) x ⊎ IsElsewhere heard N x) [
          | inl held ↦ inl (subst (λ xs. Contains xs x) (sym same) (Contains-append_left (held_of (with_room d.ring.slots)) (r ∷ []) x held))
          | inr first ↦ inr (inr (inl (overwritten x first)))
        ] in
        right-next m.decisions decision m.load (one_more d.device.slots m.load) (IsElsewhere heard d) (IsElsewhere heard N) d.ring.slots left right elsewhere-next
        (subst (λ xs. IsPart xs (records_decided m.decisions ++ r ∷ [])) (sym same) (part-push (held_of (with_room d.ring.slots)) (records_decided m.decisions) r part))
        (omega arith) next old (inl (subst (λ xs. Contains xs r) (sym same) (Contains-push (held_of (with_room d.ring.slots)) r)))

    -- what a power loss inside the store leaves
    right-left : d.ring.down ≡ false → Contains N.cut r → (left : List (Option Held)) → KeepsLeft d.ring r left
        → AreHeldRight (m.decisions ++ decision ∷ []) (one_more d.device.slots m.load) (IsElsewhere heard N) left
    right-left up listed left keeps =
        let right = h.lists.held up in
        let low = h.lists.next up in
        elim keeps as (λ _. AreHeldRight (m.decisions ++ decision ∷ []) (one_more d.device.slots m.load) (IsElsewhere heard N) left) [
          | as_before held next ↦ right-before left right listed held (omega arith)
          | without_oldest full held next ↦ right-room left right listed held (omega arith)
          | with_record held next ↦ right-with left right held (omega arith)
        ]

  -- The lists after a store that was cut, with these overwritten.
  lists-cut : (w : RingView) (overwritten : List Record) → length w.slots ≡ length d.ring.slots → w.down ≡ true → IsOnce overwritten → AreEvicted d.device.slots (m.decisions ++ decision ∷ []) overwritten → IsBelow cover decision.cost
      → EachHolds w (AreHeldRight (m.decisions ++ decision ∷ []) (one_more d.device.slots m.load)
      (IsElsewhere heard (record d { ring = w; acquired = add_once d.acquired r; overwritten = overwritten; cut = add_once d.cut r })))
      → AreListsRight heard (m.decisions ++ decision ∷ []) (one_more d.device.slots m.load) (record d { ring = w; acquired = add_once d.acquired r; overwritten = overwritten; cut = add_once d.cut r })
  lists-cut w overwritten size down once evicted below images =
      let before : All (λ e. IsBelow e.cover (4 * (e.number + 1)) → Contains (add_once d.cut r) e.rec) m.decisions =
      All-weaker (λ e. IsBelow e.cover (4 * (e.number + 1)) → Contains d.cut e.rec) (λ e. IsBelow e.cover (4 * (e.number + 1)) → Contains (add_once d.cut r) e.rec)
      (λ e listed low. add-keeps d.cut r e.rec (listed low)) m.decisions h.lists.cut_wherever in
      record {
        acquired = acquired-next;
        some = h.lists.some;
        slots = size ∙ h.lists.slots;
        most = most-next;
        images = images;
        held = λ up. absurd (false≢true (sym up ∙ down));
        durable = λ up. absurd (false≢true (sym up ∙ down));
        next = λ up. absurd (false≢true (sym up ∙ down));
        cut_once = once-add is_same records-tell d.cut r h.lists.cut_once;
        overwritten_once = once;
        cut_wherever = All-push (λ e. IsBelow e.cover (4 * (e.number + 1)) → Contains (add_once d.cut r) e.rec) m.decisions decision before (λ low. add-has d.cut r);
        cut_only = add-all (λ x. Any (λ e. IsBelow e.cover e.cost × (e.rec ≡ x)) (m.decisions ++ decision ∷ [])) d.cut r (only-later m.decisions decision d.cut h.lists.cut_only)
            (any-last (λ e. IsBelow e.cover e.cost × (e.rec ≡ r)) m.decisions decision (below, refl));
        overwritten = evicted;
      }

  few-calls : d.ring.down ≡ false → keep_calls d.ring ≤ store_cost d.device.slots m.load
  few-calls up = let right = h.lists.held up in calls-high d.ring d.device.slots m.load h.lists.slots right.few h.lists.most

  paced-up : d.ring.down ≡ false → IsPaced cover m.number m.cost false d.ring.medium.left
  paced-up up = subst (λ b. IsPaced cover m.number m.cost b d.ring.medium.left) up h.paced

  next-cut_now : (new : Side) → IsCutNow r d new → IsMidway heard cover (decide_one d.device.slots cover m r) new
  next-cut_now new s =
      let w = new.ring in
      let N : Side = record d { ring = w; acquired = add_once d.acquired r; overwritten = with_oldest d.ring d.overwritten; cut = add_once d.cut r } in
      let pace = pace-failed cover m.number m.cost (keep_calls d.ring) (store_cost d.device.slots m.load) d.ring.medium w.medium (paced-up s.up) s.keeps.counted (few-calls s.up) in
      let images : EachHolds w (AreHeldRight (m.decisions ++ decision ∷ []) (one_more d.device.slots m.load) (IsElsewhere heard N)) =
      each-weaker w (KeepsLeft d.ring r) (AreHeldRight (m.decisions ++ decision ∷ []) (one_more d.device.slots m.load) (IsElsewhere heard N))
      (right-left N (λ x has. has) (λ x has. add-keeps d.cut r x has) s.up (add-has d.cut r)) s.keeps.images in
      let lists = lists-cut w (with_oldest d.ring d.overwritten) s.keeps.size s.keeps.down (oldest-once d.ring d.overwritten h.lists.overwritten_once) (evicted-full s.up) pace.1 images in
      let P : Side → Type 0 = λ x. IsMidway heard cover (decide_one d.device.slots cover m r) x in
      subst P (sym s.rest) (record { lists = lists; paced = subst (λ b. IsPaced cover (m.number + 1) decision.cost b w.medium.left) (sym s.keeps.down) pace.0 })

  next-cut_later : (new : Side) → IsCutLater r d new → IsMidway heard cover (decide_one d.device.slots cover m r) new
  next-cut_later new s =
      let w = new.ring in
      let N : Side = record d { ring = w; acquired = add_once d.acquired r; cut = add_once d.cut r } in
      let down : IsPaced cover m.number m.cost true d.ring.medium.left = subst (λ b. IsPaced cover m.number m.cost b d.ring.medium.left) s.was_down h.paced in
      let pace = pace-later cover m.number m.cost (store_cost d.device.slots m.load) d.ring.medium.left down in
      let E = IsElsewhere heard d in
      let F = IsElsewhere heard N in
      let later : (x : Record) → E x → F x = λ x gone. elim gone as (λ _. F x) [
        | inl there ↦ inl there
        | inr rest ↦ elim rest as (λ _. F x) [ inl old ↦ inr (inl old) | inr old ↦ inr (inr (add-keeps d.cut r x old)) ]
      ] in
      let step : (left : List (Option Held)) → AreHeldRight m.decisions m.load E left → AreHeldRight (m.decisions ++ decision ∷ []) (one_more d.device.slots m.load) F left = λ left right.
      (let few = right.few in
      let most = h.lists.most in
      let next = right.next in
      right-next m.decisions decision m.load (one_more d.device.slots m.load) E F left left right later
      (part-wider (held_of left) (records_decided m.decisions) (r ∷ []) right.decided) (omega arith) (omega arith) (λ x has. inl has) (inr (inr (inr (add-has d.cut r))))) in
      let images = every-was (AreHeldRight m.decisions m.load E) (AreHeldRight (m.decisions ++ decision ∷ []) (one_more d.device.slots m.load) F) d.ring w s.told s.size s.images step h.lists.images in
      let lists = lists-cut w d.overwritten s.size s.down h.lists.overwritten_once evicted-next pace.1 images in
      let paced = subst (λ (b : Bool). IsPaced cover (m.number + 1) decision.cost b w.medium.left) (sym s.down) (subst (λ l. IsPaced cover (m.number + 1) decision.cost true l) (sym s.left) pace.0) in
      let P : Side → Type 0 = λ x. IsMidway heard cover (decide_one d.device.slots cover m r) x in
      subst P (sym s.rest) (record { lists = lists; paced = paced })

  next-stored : (new : Side) → IsStored r d new → IsMidway heard cover (decide_one d.device.slots cover m r) new
  next-stored new s =
      let w = new.ring in
      let N : Side = record d { ring = w; acquired = add_once d.acquired r; overwritten = with_oldest d.ring d.overwritten } in
      let pace = pace-passed cover m.number m.cost (keep_calls d.ring) (store_cost d.device.slots m.load) d.ring.medium w.medium (paced-up s.up) s.keeps.counted (calls-low d.ring) (few-calls s.up) in
      let durable = s.keeps.durable refl in
      let next = s.keeps.next refl in
      let low = h.lists.next s.up in
      let below = below-next w durable in
      let more = length-append m.decisions (decision ∷ []) in
      let right : AreHeldRight (m.decisions ++ decision ∷ []) (one_more d.device.slots m.load) (IsElsewhere heard N) w.slots =
      right-with N (λ x has. has) (λ x has. has) w.slots (h.lists.held s.up) (s.keeps.held refl) (omega arith) in
      let lists : AreListsRight heard (m.decisions ++ decision ∷ []) (one_more d.device.slots m.load) N = record {
        acquired = acquired-next;
        some = h.lists.some;
        slots = s.keeps.size ∙ h.lists.slots;
        most = most-next;
        images = durable-each w (AreHeldRight (m.decisions ++ decision ∷ []) (one_more d.device.slots m.load) (IsElsewhere heard N)) durable right;
        held = λ up. right;
        durable = λ up. durable;
        next = λ up. omega arith;
        cut_once = h.lists.cut_once;
        overwritten_once = oldest-once d.ring d.overwritten h.lists.overwritten_once;
        cut_wherever = All-push (λ e. IsBelow e.cover (4 * (e.number + 1)) → Contains d.cut e.rec) m.decisions decision h.lists.cut_wherever (λ under. absurd (pace.1 under));
        cut_only = only-later m.decisions decision d.cut h.lists.cut_only;
        overwritten = evicted-full s.up;
      } in
      let P : Side → Type 0 = λ x. IsMidway heard cover (decide_one d.device.slots cover m r) x in
      subst P (sym s.rest) (record { lists = lists; paced = subst (λ b. IsPaced cover (m.number + 1) decision.cost b w.medium.left) (sym s.keeps.down) pace.0 })

  -- One record stored or cut keeps the middle of a line.
  pub stores-next : (new : Side) → Stores r d new → IsMidway heard cover (decide_one d.device.slots cover m r) new
  stores-next new stores = elim stores as (λ _. IsMidway heard cover (decide_one d.device.slots cover m r) new) [
    | stored s ↦ next-stored new s
    | cut_now s ↦ next-cut_now new s
    | cut_later s ↦ next-cut_later new s
  ]
