-- Sequences that stand once in a ring over a formatted medium, and stay so by each call and over each power loss.
use Rattle.std.proofs.Common.{◌≡◌, ◌⊎◌, inl, inr, ℕ, zero, suc, ◌+◌, ◌*◌, ◌<◌, if◌then◌else◌, true, false, List, [], ◌∷◌, length, get_or, set, replicate, Option, Some, None, slice_get, IsSome, sym, ◌∙◌, ap, refl, subst, arith, length-set, get_or-set_same, get_or-set_other}
use Rattle.std.proofs.lemmas.Option.{slice_get-get_or, slice_get_within, get_or_from_slice_get}
use Rattle.std.proofs.lemmas.Bool.{cases_eq}
use Rattle.medium_model.proofs.Images.{every-at}
use Rattle.avl_values.specs.declared.order.Order.TheVariants.{Oldest}
use Rattle.flash_ring.specs.Entries.{Entry, entries_of, with_room, without_first}
use Rattle.flash_ring.specs.Held.{Held, AreBelow, closed_all, first_closed, is_full, put_in}
use Rattle.flash_ring.specs.Images.{HoldsWith, MayClose}
use Rattle.flash_ring.specs.Records.{HasDistinctSeqs}
use Rattle.flash_ring.specs.Ring.{RingView, EachHolds, MayHold}
use Rattle.flash_ring.specs.Slot.{slot_bytes, slots_of}
use Rattle.flash_ring.proofs.Closes.{may-close_all}
use Rattle.flash_ring.proofs.Slots.{length-slots_of, slot_bytes-at, slot_of-closed, slots_of-at}

-- what is open now was open before, and holds the same
distinct-less : (before left : List (Option Held)) → ((k : ℕ) (h : Held) → slice_get left k ≡ Some (Some h) → slice_get before k ≡ Some (Some h)) → HasDistinctSeqs before → HasDistinctSeqs left
distinct-less before left less were = record { distinct = λ j k g h at_j at_k same. were.distinct j k g h (less j g at_j) (less k h at_k) same }

-- Zero bytes have no open slot.
zero-closed : (n k : ℕ) (h : Held) → slice_get (slots_of n (replicate (272 * n) 0)) k ≡ Some (Some h) → ⊥
zero-closed n k h is =
    let zeros = replicate {A = ℕ} (272 * n) 0 in
    let low : k < n = (let l = slice_get_within (slots_of n zeros) k (Some h) is in omega (arith, length-slots_of n zeros)) in
    let gate : get_or zeros (272 * k + 0) 0 ≡ 0 = get_or-replicate_any (272 * n) (272 * k + 0) in
    let shut : get_or (slot_bytes k zeros) 0 0 ≡ 0 = slot_bytes-at k 0 zeros (omega arith) ∙ gate in
    let none = slot_of-closed (slot_bytes k zeros) (λ open_gate. let e : 0 ≡ 0xA5 = sym shut ∙ open_gate in absurd (omega arith)) in
    let there = get_or_from_slice_get (slots_of n zeros) k (Some h) None is in
    let e : None ≡ Some h = sym none ∙ sym (slots_of-at n k zeros None low) ∙ there in
    absurd (cc)
  where
    get_or-replicate_any : (n i : ℕ) → get_or (replicate {A = ℕ} n 0) i 0 ≡ 0
    get_or-replicate_any zero i = refl
    get_or-replicate_any (suc n) zero = refl
    get_or-replicate_any (suc n) (suc i) = get_or-replicate_any n i

-- A formatted flash has none.
pub distinct-formatted : (n : ℕ) → HasDistinctSeqs (slots_of n (replicate (272 * n) 0))
distinct-formatted n = record { distinct = λ j k g h at_j at_k same. absurd (zero-closed n j g at_j) }

-- a slot that is open once one was written
placed : (slots : List (Option Held)) (k j : ℕ) (h g : Held) → slice_get (set slots k (Some h)) j ≡ Some (Some g) → ((j ≡ k) × (h ≡ g)) ⊎ (slice_get slots j ≡ Some (Some g))
placed slots k j h g is =
    let low : j < length slots = (let l = slice_get_within (set slots k (Some h)) j (Some g) is in omega (arith, length-set slots k (Some h))) in
    let at = get_or_from_slice_get (set slots k (Some h)) j (Some g) None is in
    elim (cases_eq j k) as (λ _. ((j ≡ k) × (h ≡ g)) ⊎ (slice_get slots j ≡ Some (Some g))) [
      | inl same ↦
          (let e : Some h ≡ Some g = sym (get_or-set_same slots k (Some h) None (omega arith)) ∙ ap (λ i. get_or (set slots k (Some h)) i None) (sym same) ∙ at in
          let it : h ≡ g = cc in inl (same, it))
      | inr other ↦ inr (slice_get-get_or slots j None low ∙ ap Some (sym (get_or-set_other slots k j (Some h) None other) ∙ at))
    ]

-- A record put in above all sequences adds another one.
pub distinct-put : (slots : List (Option Held)) (h : Held) → AreBelow h.seq slots → HasDistinctSeqs slots → HasDistinctSeqs (put_in slots h)
distinct-put slots h below were =
    record {
      distinct = λ j k f g at_j at_k same.
          let at = first_closed slots in
          elim (placed slots at j h f at_j) as (λ _. j ≡ k) [
            | inl new ↦ elim (placed slots at k h g at_k) as (λ _. j ≡ k) [
              | inl also ↦ new.0 ∙ sym also.0
              | inr old ↦ absurd (let low = below k g old in let seq = ap (λ (x : Held). x.seq) new.1 in omega arith)
            ]
            | inr old ↦ elim (placed slots at k h g at_k) as (λ _. j ≡ k) [
              | inl new ↦ absurd (let low = below j f old in let seq = ap (λ (x : Held). x.seq) new.1 in omega arith)
              | inr also ↦ were.distinct j k f g old also same
            ]
          ];
    }

-- Closing slots leaves some of the sequences.
pub distinct-may_close : (ks : List ℕ) (before left : List (Option Held)) → MayClose ks before left → HasDistinctSeqs before → HasDistinctSeqs left
distinct-may_close ks before left may were =
    distinct-less before left (λ k h is. elim (may.each k) as (λ _. slice_get before k ≡ Some (Some h)) [
      | inl same ↦ sym same ∙ is
      | inr closed ↦ absurd (let e : Some None ≡ Some (Some h) = sym closed.1 ∙ is in cc)
    ]) were

pub distinct-closed : (ks : List ℕ) (slots : List (Option Held)) → HasDistinctSeqs slots → HasDistinctSeqs (closed_all ks slots)
distinct-closed ks slots were = distinct-may_close ks slots (closed_all ks slots) (may-close_all ks slots) were

pub distinct-with_room : (slots : List (Option Held)) → HasDistinctSeqs slots → HasDistinctSeqs (with_room slots)
distinct-with_room slots were =
    elim (is_full slots) as (λ b. HasDistinctSeqs (if b then without_first (entries_of Oldest slots) slots else slots)) [
      | true ↦ of_entries (entries_of Oldest slots)
      | false ↦ were
    ]
  where
    of_entries : (es : List Entry) → HasDistinctSeqs (without_first es slots)
    of_entries [] = were
    of_entries (e ∷ es) = distinct-closed (e.slot ∷ []) slots were

-- What each image of a ring over a medium that tells its content has, is true of what a restart may hold.
pub restart-has : (v : RingView) (P : List (Option Held) → Type 0) (left : List (Option Held)) → IsSome v.medium.content → EachHolds v P → MayHold v left → P left
restart-has v P left told every may = subst P may.holds (every-at v.medium.content (HoldsWith (length v.slots) P) may.image told every may.was).holds
