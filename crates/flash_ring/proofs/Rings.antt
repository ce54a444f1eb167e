-- What stays true of a ring's slots.
use Rattle.std.proofs.Common.{◌≡◌, ◌≢◌, ◌⊎◌, inl, inr, ℕ, zero, suc, ◌+◌, ◌*◌, ◌<◌, ◌≤◌, ◌^◌, if◌then◌else◌, Bool, true, false, List, [], ◌∷◌, length, get_or, set, take, drop, map, Option, Some, None, Result, Ok, Err, OnOk, is_err, slice_get, sym, ◌∙◌, ap, refl, subst, arith, length-set, get_or-set_same, get_or-set_other}
use Rattle.std.proofs.lemmas.Bool.{cases_eq, false≢true}
use Rattle.std.proofs.lemmas.List.{drop_more}
use Rattle.std.proofs.lemmas.Option.{get_or_from_slice_get, slice_get_within, slice_get-get_or, slice_get_past}
use Rattle.medium_model.specs.State.{MediumState, IfTold}
use Rattle.record_codecs.specs.SomeRecord.{IsSomeRecord}
use Rattle.flash_ring.specs.Held.{Held, IsSoundHeld, AreSound, AreBelow, first_closed, is_full, next_of, closed_all, rec_in, rec_at}
use Rattle.flash_ring.specs.Images.{IsSettled}
use Rattle.medium_model.specs.Images.{IsEither, IsSame, unchanged}
use Rattle.flash_ring.specs.Ring.{RingView, IsUp, IsRing, IsDurable, EachHolds}
use Rattle.flash_ring.proofs.Closes.{length-closed_all, holds-map}
use Rattle.avl_values.specs.declared.order.Order.TheVariants.{Oldest}
use Rattle.flash_ring.specs.Entries.{Entry, IsOldest, entries_of, first_slot, held_of, rec_of, with_room, without_first}
use Rattle.flash_ring.proofs.Entries.{Each, IsEntry, entries-open, oldest_there}
use Rattle.flash_ring.proofs.Stores.{settled_images}
use Rattle.flash_ring.specs.Slot.{IsFlash, slots_of}
use Rattle.medium_model.proofs.Images.{durable-settled}

pub durable_up : (v : RingView) → IsUp v → v.down ≡ false → IsDurable v
durable_up v is up = record {
  up = up;
  medium = durable-settled (IsFlash (length v.slots)) (slots_of (length v.slots)) (IsSame v.slots) v.medium is.settled;
  sound = is.sound;
  below = is.below;
}

pub either_up : (v : RingView) (after : List (Option Held)) → IsUp v → EachHolds v (IsEither v.slots after)
either_up v after is = settled_images (length v.slots) v.slots v.medium.content (IsEither v.slots after) (λ left same. unchanged same) is.settled

-- one slot set
held_at : (slots : List (Option Held)) (k j : ℕ) (x : Option Held) (h : Held) → slice_get (set slots k x) j ≡ Some (Some h) → (x ≡ Some h) ⊎ (slice_get slots j ≡ Some (Some h))
held_at slots k j x h is =
    let low : j < length slots = (let l = slice_get_within (set slots k x) j (Some h) is in omega (arith, length-set slots k x)) in
    let at = get_or_from_slice_get (set slots k x) j (Some h) None is in
    elim (cases_eq j k) as (λ _. (x ≡ Some h) ⊎ (slice_get slots j ≡ Some (Some h))) [
      | inl same ↦ inl (sym (get_or-set_same slots k x None (omega arith)) ∙ ap (λ i. get_or (set slots k x) i None) (sym same) ∙ at)
      | inr other ↦ inr (slice_get-get_or slots j None low ∙ ap Some (sym (get_or-set_other slots k j x None other) ∙ at))
    ]

pub sound-set : (slots : List (Option Held)) (k : ℕ) (h : Held) → AreSound slots → IsSoundHeld h → AreSound (set slots k (Some h))
sound-set slots k h were sound = record {
  each = λ j other is. elim (held_at slots k j (Some h) other is) as (λ _. IsSoundHeld other) [
    | inl new ↦ let same : h ≡ other = cc in subst IsSoundHeld same sound
    | inr old ↦ were.each j other old
  ];
}

pub below-set : (slots : List (Option Held)) (k : ℕ) (h : Held) (next : ℕ) → AreBelow next slots → h.seq ≡ next → AreBelow (next + 1) (set slots k (Some h))
below-set slots k h next were seq j other is = elim (held_at slots k j (Some h) other is) as (λ _. other.seq < next + 1) [
  | inl new ↦ let same : h ≡ other = cc in let s = ap (λ (x : Held). x.seq) same in omega arith
  | inr old ↦ let b = were j other old in omega arith
]

closed-at : (slots : List (Option Held)) (k j : ℕ) (h : Held) → slice_get (set slots k None) j ≡ Some (Some h) → slice_get slots j ≡ Some (Some h)
closed-at slots k j h is = elim (held_at slots k j None h is) as (λ _. slice_get slots j ≡ Some (Some h)) [ inl never ↦ absurd (cc) | inr old ↦ old ]

pub sound-closed : (ks : List ℕ) (slots : List (Option Held)) → AreSound slots → AreSound (closed_all ks slots)
sound-closed [] slots were = were
sound-closed (k ∷ ks) slots were = sound-closed ks (set slots k None) (record { each = λ j h is. were.each j h (closed-at slots k j h is) })

pub below-closed : (ks : List ℕ) (slots : List (Option Held)) (next : ℕ) → AreBelow next slots → AreBelow next (closed_all ks slots)
below-closed [] slots next were = were
below-closed (k ∷ ks) slots next were = below-closed ks (set slots k None) next (λ j h is. were j h (closed-at slots k j h is))

-- the first closed slot
pub closed-first : (slots : List (Option Held)) → is_full slots ≡ false → slice_get slots (first_closed slots) ≡ Some None
closed-first [] full = cc
closed-first (None ∷ slots) full = refl
closed-first (Some h ∷ slots) full = closed-first slots full

pub first_here : (slots : List (Option Held)) (k : ℕ) → k < length slots → is_full (take k slots) ≡ true → get_or slots k None ≡ None → first_closed slots ≡ k
first_here [] k low full none = absurd (omega arith)
first_here (None ∷ slots) zero low full none = refl
first_here (None ∷ slots) (suc k) low full none = cc
first_here (Some h ∷ slots) zero low full none = cc
first_here (Some h ∷ slots) (suc k) low full none = ap suc (first_here slots k (omega arith) full none)

pub full_more : (slots : List (Option Held)) (k : ℕ) (h : Held) → k < length slots → is_full (take k slots) ≡ true → get_or slots k None ≡ Some h → is_full (take (k + 1) slots) ≡ true
full_more slots k h low full is = let P : ℕ → Type 0 = λ i. is_full (take i slots) ≡ true in let next : suc k ≡ k + 1 = omega arith in subst P next (more slots k low full is)
  where
    more : (slots : List (Option Held)) (k : ℕ) → k < length slots → is_full (take k slots) ≡ true → get_or slots k None ≡ Some h → is_full (take (suc k) slots) ≡ true
    more [] k low full is = absurd (omega arith)
    more (None ∷ slots) zero low full is = cc
    more (None ∷ slots) (suc k) low full is = cc
    more (Some x ∷ slots) zero low full is = refl
    more (Some x ∷ slots) (suc k) low full is = more slots k (omega arith) full is

pub not_full : (slots : List (Option Held)) (k : ℕ) → k < length slots → get_or slots k None ≡ None → is_full slots ≡ false
not_full [] k low none = absurd (omega arith)
not_full (None ∷ slots) k low none = refl
not_full (Some h ∷ slots) zero low none = cc
not_full (Some h ∷ slots) (suc k) low none = not_full slots k (omega arith) none

-- the next sequence
pub next_of-below : (slots : List (Option Held)) → AreBelow (next_of slots) slots
next_of-below [] k h is = cc
next_of-below (None ∷ slots) zero h is = cc
next_of-below (None ∷ slots) (suc k) h is = next_of-below slots k h is
next_of-below (Some x ∷ slots) zero h is = let same : x ≡ h = cc in let s = ap (λ (y : Held). y.seq) same in omega arith
next_of-below (Some x ∷ slots) (suc k) h is = let b = next_of-below slots k h is in omega arith

pub next_of_more : (slots : List (Option Held)) (k : ℕ) (x : Option Held) → k < length slots → get_or slots k None ≡ x → next_of (drop k slots) ≡ next_of (x ∷ drop (k + 1) slots)
next_of_more slots k x low is = ap next_of (drop_more slots k None low) ∙ ap (λ y. next_of (y ∷ drop (k + 1) slots)) is

pub seq_below : (slots : List (Option Held)) (k : ℕ) (h : Held) → k < length slots → get_or slots k None ≡ Some h → h.seq + 1 ≤ next_of slots
seq_below slots k h low is = let b = next_of-below slots k h (slice_get-get_or slots k None low ∙ ap Some is) in omega arith

pub next_of-end : (slots : List (Option Held)) → AreSound slots → next_of slots ≤ 2 ^ 63
next_of-end [] were = omega arith
next_of-end (None ∷ slots) were = next_of-end slots (record { each = λ k h is. were.each (suc k) h is })
next_of-end (Some x ∷ slots) were =
    let rest = next_of-end slots (record { each = λ k h is. were.each (suc k) h is }) in
    let this = were.each zero x refl in
    omega (arith, this.seq)

-- what a call left whose answer was tested
pub passed : {T E P : Type 0} (r : Result T E) (failed : Bool) → failed ≡ is_err r → failed ≡ false → OnOk r P → P
passed (Ok x) failed is no_error p = p
passed (Err e) failed is no_error p = absurd (false≢true (sym no_error ∙ is))

pub closed-there : (slots a b : List (Option Held)) (k : ℕ) → a ≡ slots → b ≡ slots → k ≡ first_closed a → is_full a ≡ false → slice_get b k ≡ Some None
closed-there slots a b k is_a is_b first room =
    ap (λ (s : List (Option Held)). slice_get s k) (is_b ∙ sym is_a) ∙ ap (slice_get a) first ∙ closed-first a room

-- the ring after a record was stored
pub ring-stored : (v : RingView) (m : MediumState) (k : ℕ) (h : Held) → IsRing v → v.down ≡ false → h.seq ≡ v.next → v.next ≢ 2 ^ 63 → IsSoundHeld h → v.medium.ready ≤ m.ready
    → IfTold m.content (IsSettled (length v.slots) (set v.slots k (Some h)))
    → IsRing (record { medium = m; slots = set v.slots k (Some h); next = v.next + 1; down = v.down })
ring-stored v m k h ring up seq more sound ready settled =
    let size = length-set v.slots k (Some h) in
    record {
      some = omega (arith, ring.some);
      few = omega (arith, ring.few);
      ready = omega (arith, ring.ready);
      next = omega (arith, ring.next);
      up = λ _. record {
        settled = let P : ℕ → Type 0 = λ n. IfTold m.content (IsSettled n (set v.slots k (Some h))) in subst P (sym size) settled;
        sound = sound-set v.slots k h (ring.up up).sound sound;
        below = below-set v.slots k h v.next (ring.up up).below seq;
      };
    }

-- the ring after slots were closed
pub ring-closed : (v : RingView) (m : MediumState) (ks : List ℕ) (left : List (Option Held)) → IsRing v → v.down ≡ false → left ≡ closed_all ks v.slots → v.medium.ready ≤ m.ready
    → IfTold m.content (IsSettled (length v.slots) (closed_all ks v.slots))
    → IsRing (record { medium = m; slots = left; next = v.next; down = v.down })
ring-closed v m ks left ring up is ready settled =
    let size : length left ≡ length v.slots = ap length is ∙ length-closed_all ks v.slots in
    record {
      some = omega (arith, ring.some);
      few = omega (arith, ring.few);
      ready = omega (arith, ring.ready);
      next = ring.next;
      up = λ _. record {
        settled =
            let P : List (Option Held) → Type 0 = λ s. IfTold m.content (IsSettled (length v.slots) s) in
            let Q : ℕ → Type 0 = λ n. IfTold m.content (IsSettled n left) in
            subst Q (sym size) (subst P (sym is) settled);
        sound = subst AreSound (sym is) (sound-closed ks v.slots (ring.up up).sound);
        below = subst (AreBelow v.next) (sym is) (below-closed ks v.slots v.next (ring.up up).below);
      };
    }

-- the ring after its slots were read
pub ring-loaded : (m : MediumState) (slots : List (Option Held)) (n next : ℕ) → 0 < n → n ≤ 4096 → length slots ≡ n → 272 * n ≤ m.ready → IfTold m.content (IsSettled n slots) → AreSound slots
    → next ≡ next_of slots → IsRing (record { medium = m; slots = slots; next = next; down = false })
ring-loaded m slots n next some few size ready settled sound is = record {
  some = omega arith;
  few = omega arith;
  ready = omega arith;
  next = let e = next_of-end slots sound in omega arith;
  up = λ _. record {
    settled = let P : ℕ → Type 0 = λ k. IfTold m.content (IsSettled k slots) in subst P (sym size) settled;
    sound = sound;
    below = let P : ℕ → Type 0 = λ k. AreBelow k slots in subst P (sym is) (next_of-below slots);
  };
}

pub next_fits : (a slots : List (Option Held)) → a ≡ slots → AreSound slots → next_of a ≤ 2 ^ 63
next_fits a slots is sound = let e = next_of-end slots sound in let s = ap next_of is in omega arith

-- one slot read
pub rec_at_read : (slots : List (Option Held)) (k : ℕ) (x : Option Held) → k < length slots → x ≡ get_or slots k x → rec_at slots k ≡ rec_in (Some x)
rec_at_read slots k x low is = ap rec_in (slice_get-get_or slots k x low ∙ ap Some (sym is))

pub rec_at_past : (slots : List (Option Held)) (k : ℕ) → length slots ≤ k → rec_at slots k ≡ None
rec_at_past slots k past = ap rec_in (slice_get_past slots k past)

pub sound_at : (v : RingView) (k : ℕ) (x : Option Held) (h : Held) → IsUp v → k < length v.slots → x ≡ get_or v.slots k x → x ≡ Some h → IsSomeRecord h.rec.codec h.rec.bytes
sound_at v k x h is low read some = (is.sound.each k h (slice_get-get_or v.slots k x low ∙ ap Some (sym read ∙ some))).whole

-- the oldest record of a full ring
pub is_oldest : (slots : List (Option Held)) (k : ℕ) → 0 < length slots → is_full slots ≡ true → k ≡ first_slot (entries_of Oldest slots) → IsOldest slots k
is_oldest slots k some full is = of_entries (entries_of Oldest slots) refl (oldest_there slots some full) (entries-open Oldest 0 slots)
  where
    of_entries : (es : List Entry) → entries_of Oldest slots ≡ es → 0 < length es → Each (IsEntry 0 slots) es → IsOldest slots k
    of_entries [] same some all = absurd (omega arith)
    of_entries (e ∷ es) same some all =
        let at : k ≡ all.0.index = is ∙ ap first_slot same ∙ all.0.place ∙ omega arith in
        let here : k ≡ e.slot = is ∙ ap first_slot same in
        let room : with_room slots ≡ without_first (entries_of Oldest slots) slots =
        (let P : Bool → Type 0 = λ b. (if b then without_first (entries_of Oldest slots) slots else slots) ≡ without_first (entries_of Oldest slots) slots in subst P (sym full) refl) in
        record {
          is = is;
          held = e.held;
          open_slot = ap (slice_get slots) at ∙ all.0.open_slot;
          first = ap (map rec_of) same ∙ ap (λ (xs : List Entry). rec_of e ∷ drop 1 (map rec_of xs)) (sym same);
          closes = room ∙ ap (λ (xs : List Entry). without_first xs slots) same ∙ ap (λ j. set slots j None) (sym here);
        }

pub oldest_low : (slots : List (Option Held)) (k : ℕ) → IsOldest slots k → k < length slots
oldest_low slots k is = slice_get_within slots k (Some is.held) is.open_slot

pub oldest_some : (slots : List (Option Held)) (k : ℕ) (x : Option Held) (is : IsOldest slots k) → x ≡ get_or slots k x → x ≡ Some is.held
oldest_some slots k x is read = read ∙ get_or_from_slice_get slots k (Some is.held) x is.open_slot

pub oldest_first : (slots : List (Option Held)) (k : ℕ) (x : Option Held) (h : Held) → IsOldest slots k → x ≡ get_or slots k x → x ≡ Some h → held_of slots ≡ h.rec ∷ drop 1 (held_of slots)
oldest_first slots k x h is read some =
    let same : is.held ≡ h = (let e : Some is.held ≡ Some h = sym (oldest_some slots k x is read) ∙ some in cc) in
    is.first ∙ ap (λ (y : Held). y.rec ∷ drop 1 (held_of slots)) same

pub oldest_room : (slots : List (Option Held)) (k : ℕ) → IsOldest slots k → is_full (set slots k None) ≡ false
oldest_room slots k is =
    let low = oldest_low slots k is in
    not_full (set slots k None) k (omega (arith, length-set slots k None)) (get_or-set_same slots k None None low)

pub either_durable : (v : RingView) (after : List (Option Held)) → IsDurable v → EachHolds v (IsEither v.slots after)
either_durable v after is = holds-map (length v.slots) v.medium.content (λ left. left ≡ v.slots) (IsEither v.slots after) (λ left same. unchanged same) is.medium.same
