-- Reading slot after slot.
use Rattle.std.proofs.Common.{◌≡◌, inl, inr, ℕ, ◌+◌, ◌-◌, ◌*◌, ◌<◌, ◌≤◌, min, List, ◌++◌, length, get_or, set, take, drop, Option, Some, None, sym, ◌∙◌, ap, subst, arith, mul-le-mul_left, get_or-set_same, get_or-set_other}
use Rattle.std.proofs.lemmas.Bool.{cases_eq}
use Rattle.std.proofs.lemmas.List.{take_at}
use Rattle.std.proofs.lemmas.Option.{get_or_from_slice_get, slice_get_within}
use Rattle.medium_model.specs.Content.{Content}
use Rattle.medium_model.specs.State.{IfTold}
use Rattle.flash_ring.specs.Held.{Held, IsSoundHeld, AreSound}
use Rattle.flash_ring.specs.Slot.{HoldsSound, IsSoundSlot, IsFlash, IsFirstUnsound, slot_of, slot_bytes, slots_of}
use Rattle.flash_ring.proofs.Slots.{gate-open, slots_of-is}

-- the first slots have been read
pub record HasRead (done : ℕ) (content : Option Content) (slots : List (Option Held)) : Type 0 where
  pub sound : (k : ℕ) (h : Held) → k < done → get_or slots k None ≡ Some h → IsSoundHeld h
  pub flash : IfTold content (λ c. (k : ℕ) → k < done → IsSoundSlot (slot_bytes k c.reads))
  pub holds : IfTold content (λ c. (k : ℕ) → k < done → get_or slots k None ≡ slot_of (slot_bytes k c.reads))

-- what a read of a whole slot gives
pub slot-read : (content now : Option Content) (k count : ℕ) (into : List ℕ) → now ≡ content → count ≡ 272
    → IfTold now (λ c. take count into ≡ take count (drop (272 * k) c.reads)) → IfTold content (λ c. take count into ≡ slot_bytes k c.reads)
slot-read None now k count into same whole bytes = tt
slot-read (Some c) now k count into same whole bytes =
    let P : Option Content → Type 0 = λ o. IfTold o (λ d. take count into ≡ take count (drop (272 * k) d.reads)) in
    subst P same bytes ∙ ap (λ n. take n (drop (272 * k) c.reads)) whole

-- Where the bytes are as long as the slots, each read gives a whole slot.
pub short-read : (content now : Option Content) (n k count : ℕ) → now ≡ content → k < n → count < 272 → IfTold now (λ c. count ≡ min 272 (length c.reads - 272 * k))
    → IfTold content (λ c. length c.reads ≡ 272 * n → ⊥)
short-read None now n k count same low short counted = tt
short-read (Some c) now n k count same low short counted = λ fits.
    let P : Option Content → Type 0 = λ o. IfTold o (λ d. count ≡ min 272 (length d.reads - 272 * k)) in
    let exact = subst P same counted in
    let m : 272 * (k + 1) ≤ 272 * n = mul-le-mul_left 272 (omega arith) in
    omega (arith, m, exact)

-- what can't be has whatever one likes
pub never-short : (content : Option Content) (n : ℕ) (P : Content → Type 0) → IfTold content (λ c. length c.reads ≡ 272 * n → ⊥) → IfTold content (λ c. length c.reads ≡ 272 * n → P c)
never-short None n P never = tt
never-short (Some c) n P never = λ fits. absurd (never fits)

sound_held : (bytes : List ℕ) (h : Held) → IsSoundSlot bytes → slot_of bytes ≡ Some h → IsSoundHeld h
sound_held bytes h sound is = subst HoldsSound is (sound (gate-open bytes h is))

module _ (n k : ℕ) (read : List ℕ) (slots : List (Option Held)) (low : k < n) (size : length slots ≡ n) where
  read_more_sound : (content : Option Content) → HasRead k content slots → (held : Option Held) → held ≡ slot_of read → IsSoundSlot read
      → (j : ℕ) (h : Held) → j < k + 1 → get_or (set slots k held) j None ≡ Some h → IsSoundHeld h
  read_more_sound content was held is sound j h below here = elim (cases_eq j k) as (λ _. IsSoundHeld h) [
    | inl same ↦ sound_held read h sound (sym is ∙ sym (get_or-set_same slots k held None (omega arith)) ∙ ap (λ i. get_or (set slots k held) i None) (sym same) ∙ here)
    | inr other ↦ was.sound j h (omega arith) (sym (get_or-set_other slots k j held None other) ∙ here)
  ]

  pub read-more : (content : Option Content) → HasRead k content slots → IfTold content (λ c. read ≡ slot_bytes k c.reads)
      → (held : Option Held) → held ≡ slot_of read → IsSoundSlot read → HasRead (k + 1) content (set slots k held)
  read-more None was there held is sound = record { sound = read_more_sound None was held is sound; flash = tt; holds = tt }
  read-more (Some c) was there held is sound = record {
    sound = read_more_sound (Some c) was held is sound;
    flash = λ j below. elim (cases_eq j k) as (λ _. IsSoundSlot (slot_bytes j c.reads)) [
      | inl here ↦ let R : ℕ → Type 0 = λ i. IsSoundSlot (slot_bytes i c.reads) in subst R (sym here) (subst IsSoundSlot there sound)
      | inr other ↦ was.flash j (omega arith)
    ];
    holds = λ j below. elim (cases_eq j k) as (λ _. get_or (set slots k held) j None ≡ slot_of (slot_bytes j c.reads)) [
      | inl here ↦
          ap (λ i. get_or (set slots k held) i None) here ∙ get_or-set_same slots k held None (omega arith) ∙ is ∙ ap slot_of there
          ∙ ap (λ i. slot_of (slot_bytes i c.reads)) (sym here)
      | inr other ↦ get_or-set_other slots k j held None other ∙ was.holds j (omega arith)
    ];
  }

  pub read-bad : (content : Option Content) → HasRead k content slots → IfTold content (λ c. read ≡ slot_bytes k c.reads)
      → (IsSoundSlot read → ⊥) → IfTold content (λ c. length c.reads ≡ 272 * n → (length c.reads ≡ 272 * n) × IsFirstUnsound n c.reads k)
  read-bad None was there bad = tt
  read-bad (Some c) was there bad = λ fits. (
    fits,
    record { low = low; before = λ j below. was.flash j below; unsound = λ sound. bad (subst IsSoundSlot (sym there) sound) },
  )

-- every slot has been read
pub read-sound : (content : Option Content) (slots : List (Option Held)) (done : ℕ) → length slots ≤ done → HasRead done content slots → AreSound slots
read-sound content slots done all was = record {
  each = λ k h here. was.sound k h (let low = slice_get_within slots k (Some h) here in omega arith) (get_or_from_slice_get slots k (Some h) None here);
}

pub read-whole : (content : Option Content) (slots : List (Option Held)) (n done : ℕ) → length slots ≡ n → n ≤ done → HasRead done content slots
    → IfTold content (λ c. length c.reads ≡ 272 * n → IsFlash n c.reads × (slots ≡ slots_of n c.reads))
read-whole None slots n done size all was = tt
read-whole (Some c) slots n done size all was = λ fits. (
  record { size = fits; sound = λ k low. was.flash k (omega arith) },
  sym (slots_of-is n c.reads slots size (λ k low. sym (was.holds k (omega arith)))),
)

-- a slice that kept its length is the whole list again
pub front_of : (new rest : List (Option Held)) (n : ℕ) → length new ≡ n → take n (new ++ rest) ≡ new
front_of new rest n size = take_at new rest n size
