-- Keeping a record: room, and then the record.
use Rattle.std.proofs.Common.{◌≡◌, ◌⊎◌, inl, inr, ℕ, ◌+◌, ◌<◌, ◌≤◌, ◌^◌, if◌then◌else◌, Bool, true, false, List, [], ◌∷◌, length, Option, Some, None, refl, sym, ap, subst, ◌∙◌, arith, length-set}
use Rattle.std.proofs.lemmas.Bool.{false≢true}
use Rattle.avl_values.specs.Record.{Record}
use Rattle.medium_model.specs.CallsLeft.{CallsLeft, unknown, unlimited, after, exhausted, less, Passes}
use Rattle.medium_model.specs.State.{MediumState, Counted}
use Rattle.medium_model.proofs.Images.{counted-as, counted-then, less-over}
use Rattle.flash_ring.specs.Entries.{Entry, entries_of, held_of, with_room, without_first}
use Rattle.flash_ring.specs.Held.{Held, AreBelow, is_full, next_of, put_in}
use Rattle.medium_model.specs.Images.{IsEither, unchanged, changed}
use Rattle.flash_ring.specs.Ring.{EachHolds, IsDurable, RingView, put_calls, room_calls}
use Rattle.flash_ring.proofs.Closes.{holds-map}
use Rattle.flash_ring.proofs.Entries.{held_of-put}
use Rattle.flash_ring.proofs.HeldRecords.{next_of-least, next_of-put}
use Rattle.flash_ring.proofs.Rings.{below-closed}
use Rattle.flash_ring.proofs.Slots.{eqb-not}
use Rattle.avl_values.specs.declared.order.Order.TheVariants.{Oldest}
use Rattle.tracker_session.specs.Keeping.{IsLeft, Keeps, KeepsLeft, as_before, slots_before, slots_kept, slots_roomy, without_oldest, with_record}

-- a run that failed at its first calls failed, whatever calls were to follow
less-failed : (n m : ℕ) (l : CallsLeft) → (Passes n l → ⊥) → less n l ≡ less (n + m) l
less-failed n m unknown fails = refl
less-failed n m unlimited fails = refl
less-failed n m (after k) fails = let low : k < n = omega (arith, fails) in less-over n k low ∙ sym (less-over (n + m) k (omega arith))
less-failed n m exhausted fails = refl

passes-front : (n m : ℕ) (l : CallsLeft) → Passes (n + m) l → Passes n l
passes-front n m unknown p = omega arith
passes-front n m unlimited p = tt
passes-front n m (after k) p = omega arith
passes-front n m exhausted p = omega arith

pub counted-failed : (n m : ℕ) (a b : MediumState) (failed given_up : Type 0) → failed → given_up → Counted n a b failed → Counted (n + m) a b given_up
counted-failed n m a b failed given_up f up counted = record {
  ready = counted.ready;
  later = counted.later;
  cause = λ _. counted.cause f;
  left = counted.left ∙ less-failed n m a.left (λ p. counted.passes p f);
  passes = λ p _. counted.passes (passes-front n m a.left p) f;
  fails = λ _. up;
  told = counted.told;
}

below-room : (n : ℕ) (slots : List (Option Held)) → AreBelow n slots → AreBelow n (with_room slots)
below-room n slots below = elim (is_full slots) as (λ b. AreBelow n (if b then without_first (entries_of Oldest slots) slots else slots)) [ true ↦ first (entries_of Oldest slots) | false ↦ below ]
  where
    first : (es : List Entry) → AreBelow n (without_first es slots)
    first [] = below
    first (e ∷ es) = below-closed (e.slot ∷ []) slots n below

length-room : (slots : List (Option Held)) → length (with_room slots) ≡ length slots
length-room slots = elim (is_full slots) as (λ b. length (if b then without_first (entries_of Oldest slots) slots else slots) ≡ length slots) [ true ↦ first (entries_of Oldest slots) | false ↦ refl ]
  where
    first : (es : List Entry) → length (without_first es slots) ≡ length slots
    first [] = refl
    first (e ∷ es) = length-set slots e.slot None

full-cases : (b : Bool) → (b ≡ true) ⊎ (b ≡ false)
full-cases true = inl refl
full-cases false = inr refl

-- what a power loss leaves while room is made
pub left-room : (v : RingView) (r : Record) (left : List (Option Held)) → AreBelow v.next v.slots → IsEither v.slots (with_room v.slots) left → KeepsLeft v r left
left-room v r left below (unchanged same) = as_before (ap held_of same) (subst (λ s. next_of s ≤ v.next) (sym same) (next_of-least v.next v.slots below))
left-room v r left below (changed same) =
    let bound : next_of left ≤ v.next = subst (λ s. next_of s ≤ v.next) (sym same) (next_of-least v.next (with_room v.slots) (below-room v.next v.slots below)) in
    elim (full-cases (is_full v.slots)) as (λ _. KeepsLeft v r left) [
      | inl full ↦ without_oldest full (ap held_of same) bound
      | inr room ↦ as_before (ap held_of same ∙ ap (λ b. held_of (if b then without_first (entries_of Oldest v.slots) v.slots else v.slots)) room) bound
    ]

-- and while the record is put
pub left-put : (v : RingView) (r : Record) (left : List (Option Held)) → AreBelow v.next v.slots → is_full (with_room v.slots) ≡ false
    → IsEither (with_room v.slots) (put_in (with_room v.slots) (record { seq = v.next; rec = r })) left → KeepsLeft v r left
left-put v r left below room (unchanged same) = left-room v r left below (changed same)
left-put v r left below room (changed same) =
    let h : Held = record { seq = v.next; rec = r } in
    let low = below-room v.next v.slots below in
    let next : next_of (put_in (with_room v.slots) h) ≤ v.next + 1 = omega (arith, next_of-put (with_room v.slots) h room (next_of-least v.next (with_room v.slots) low)) in
    with_record (ap held_of same ∙ held_of-put (with_room v.slots) h room low) (subst (λ s. next_of s ≤ v.next + 1) (sym same) next)

-- the same, slot by slot
is-left-room : (v : RingView) (r : Record) (left : List (Option Held)) → IsEither v.slots (with_room v.slots) left → IsLeft v r left
is-left-room v r left (unchanged same) = slots_before same
is-left-room v r left (changed same) = elim (full-cases (is_full v.slots)) as (λ _. IsLeft v r left) [
  | inl full ↦ slots_roomy full same
  | inr room ↦ slots_before (same ∙ ap (λ b. if b then without_first (entries_of Oldest v.slots) v.slots else v.slots) room)
]

is-left-put : (v : RingView) (r : Record) (left : List (Option Held)) → IsEither (with_room v.slots) (put_in (with_room v.slots) (record { seq = v.next; rec = r })) left → IsLeft v r left
is-left-put v r left (unchanged same) = is-left-room v r left (changed same)
is-left-put v r left (changed same) = slots_kept same

four-calls : (v : RingView) → (v.next ≡ 2 ^ 63 → ⊥) → put_calls v ≡ 4
four-calls v unspent = ap (λ b. if b then 0 else 4) (eqb-not v.next (2 ^ 63) unspent)

-- room couldn't be made
pub keeps-no_room : (v w : RingView) (r : Record) (failed : Type 0) → IsDurable v → failed → w ≡ record v { medium = w.medium; down = true } → EachHolds w (IsEither v.slots (with_room v.slots))
    → Counted (room_calls v) v.medium w.medium failed → Keeps r true v w
keeps-no_room v w r failed durable f is images counted = record {
  size = ap (λ (u : RingView). length u.slots) is;
  slots = λ no. absurd (false≢true (sym no));
  leaves = holds-map (length w.slots) w.medium.content (IsEither v.slots (with_room v.slots)) (IsLeft v r) (λ left either. is-left-room v r left either) images;
  images = holds-map (length w.slots) w.medium.content (IsEither v.slots (with_room v.slots)) (KeepsLeft v r) (λ left either. left-room v r left durable.below either) images;
  held = λ no. absurd (false≢true (sym no));
  next = λ no. absurd (false≢true (sym no));
  durable = λ no. absurd (false≢true (sym no));
  down = ap (λ (u : RingView). u.down) is;
  counted = counted-failed (room_calls v) 4 v.medium w.medium failed (true ≡ true) f refl counted;
}

-- room was made
pub record HasRoom (v u : RingView) : Type 0 where
  pub is : u ≡ record v { medium = u.medium; slots = with_room v.slots }
  pub room : is_full (with_room v.slots) ≡ false
  pub counted : Counted (room_calls v) v.medium u.medium ⊥

pub has-room : (v u : RingView) (failed : Type 0) → u ≡ record v { medium = u.medium; slots = with_room v.slots } → is_full u.slots ≡ false → (failed → ⊥) → Counted (room_calls v) v.medium u.medium failed → HasRoom v u
has-room v u failed is room passed counted = record {
  is = is;
  room = ap is_full (sym (ap (λ (x : RingView). x.slots) is)) ∙ room;
  counted = counted-as refl (λ f. absurd f) passed counted;
}

-- what the record's calls leave, in the words of the ring before room was made
put-left : (v u : RingView) (r : Record) (left : List (Option Held)) → IsDurable v → HasRoom v u
    → IsEither u.slots (put_in u.slots (record { seq = u.next; rec = r })) left → KeepsLeft v r left
put-left v u r left durable room either =
    let P : RingView → Type 0 = λ x. IsEither x.slots (put_in x.slots (record { seq = x.next; rec = r })) left in
    left-put v r left durable.below room.room (subst P room.is either)

put-slots : (v u : RingView) (r : Record) (left : List (Option Held)) → HasRoom v u → IsEither u.slots (put_in u.slots (record { seq = u.next; rec = r })) left → IsLeft v r left
put-slots v u r left room either =
    let P : RingView → Type 0 = λ x. IsEither x.slots (put_in x.slots (record { seq = x.next; rec = r })) left in
    is-left-put v r left (subst P room.is either)

-- the record couldn't be put
pub keeps-not_put : (v u w : RingView) (r : Record) (failed : Type 0) → IsDurable v → (v.next ≡ 2 ^ 63 → ⊥) → HasRoom v u → failed → w ≡ record u { medium = w.medium; down = true }
    → EachHolds w (IsEither u.slots (put_in u.slots (record { seq = u.next; rec = r }))) → Counted (put_calls u) u.medium w.medium failed → Keeps r true v w
keeps-not_put v u w r failed durable unspent room f is images counted =
    let P : RingView → Type 0 = λ x. x.next ≡ 2 ^ 63 → ⊥ in
    let unspent_there = subst P (sym room.is) unspent in
    record {
      size = ap (λ (x : RingView). length x.slots) is ∙ ap (λ (x : RingView). length x.slots) room.is ∙ length-room v.slots;
      slots = λ no. absurd (false≢true (sym no));
      leaves = holds-map (length w.slots) w.medium.content (IsEither u.slots (put_in u.slots (record { seq = u.next; rec = r }))) (IsLeft v r) (λ left either. put-slots v u r left room either) images;
      images = holds-map (length w.slots) w.medium.content (IsEither u.slots (put_in u.slots (record { seq = u.next; rec = r }))) (KeepsLeft v r) (λ left either. put-left v u r left durable room either) images;
      held = λ no. absurd (false≢true (sym no));
      next = λ no. absurd (false≢true (sym no));
      durable = λ no. absurd (false≢true (sym no));
      down = ap (λ (x : RingView). x.down) is;
      counted = counted-as refl (λ _. f) (λ _. refl) (counted-then room.counted (counted-as (four-calls u unspent_there) (λ g. g) (λ g. g) counted));
    }

-- the record was put
pub keeps-put : (v u w : RingView) (r : Record) (failed : Type 0) → IsDurable v → (v.next ≡ 2 ^ 63 → ⊥) → HasRoom v u → (failed → ⊥) → w.slots ≡ put_in u.slots (record { seq = u.next; rec = r }) → w.next ≡ u.next + 1 → IsDurable w
    → EachHolds w (IsEither u.slots (put_in u.slots (record { seq = u.next; rec = r }))) → Counted (put_calls u) u.medium w.medium failed → Keeps r false v w
keeps-put v u w r failed durable unspent room passed slots next done images counted =
    let h : Held = record { seq = v.next; rec = r } in
    let P : RingView → Type 0 = λ x. x.next ≡ 2 ^ 63 → ⊥ in
    let unspent_there = subst P (sym room.is) unspent in
    let stored : w.slots ≡ put_in (with_room v.slots) h = slots ∙ ap (λ (x : RingView). put_in x.slots (record { seq = x.next; rec = r })) room.is in
    record {
      size = ap length stored ∙ length-set (with_room v.slots) _ (Some h) ∙ length-room v.slots;
      slots = λ _. stored;
      leaves = holds-map (length w.slots) w.medium.content (IsEither u.slots (put_in u.slots (record { seq = u.next; rec = r }))) (IsLeft v r) (λ left either. put-slots v u r left room either) images;
      images = holds-map (length w.slots) w.medium.content (IsEither u.slots (put_in u.slots (record { seq = u.next; rec = r }))) (KeepsLeft v r) (λ left either. put-left v u r left durable room either) images;
      held = λ _. ap held_of stored ∙ held_of-put (with_room v.slots) h room.room (below-room v.next v.slots durable.below);
      next = λ _. next ∙ ap (λ (x : RingView). x.next + 1) room.is;
      durable = λ _. done;
      down = done.up;
      counted = counted-as refl (λ no. absurd (false≢true no)) (λ g. absurd (passed g)) (counted-then room.counted (counted-as (four-calls u unspent_there) (λ g. g) (λ g. g) counted));
    }
