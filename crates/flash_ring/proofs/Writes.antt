-- What a write of one slot's body, or of one gate, leaves of a flash.
use Rattle.std.proofs.Common.{◌≡◌, ◌≢◌, ◌⊎◌, inl, inr, ℕ, zero, suc, ◌+◌, ◌-◌, ◌*◌, ◌<◌, ◌≤◌, List, ◌∷◌, length, get_or, set, replicate, Option, Some, None, slice_get, sym, ◌∙◌, ap, subst, arith, length-append, length-set, mul-le-mul_left, get_or-set_same, get_or-set_other}
use Rattle.std.proofs.lemmas.Bool.{cases_lt, cases_eq}
use Rattle.std.proofs.lemmas.List.{ext_get_or, set-get_or, length-replicate}
use Rattle.std.proofs.lemmas.Option.{get_or_from_slice_get}
use Rattle.medium_model.specs.Content.{written}
use Rattle.medium_model.proofs.Images.{SameOutside, written-outside}
use Rattle.medium_model.proofs.Written.{get_or-written_there}
use Rattle.flash_ring.specs.Held.{Held, IsSoundHeld}
use Rattle.flash_ring.specs.Slot.{body_of, slot_of, HoldsSound, IsSoundSlot, slot_bytes, slots_of, IsFlash}
use Rattle.flash_ring.proofs.Slots.{length-slots_of, slots_of-at, slots_of-is, slot_bytes-at, length-slot_bytes, slot_bytes-same, slot_of-closed, gate-closed, slot_of-layout}

-- One slot of a flash has changed.
module _ (n slot : ℕ) (base image : List ℕ) (slots : List (Option Held))
    (flash : IsFlash n base) (holds : slots_of n base ≡ slots) (low : slot < n)
    (size : length image ≡ length base)
    (others : (j : ℕ) → j < n → j ≢ slot → slot_bytes j image ≡ slot_bytes j base)
    (sound : IsSoundSlot (slot_bytes slot image)) where
  pub flash-set : IsFlash n image
  flash-set = record {
    size = size ∙ flash.size;
    sound = λ k low_k. elim (cases_eq k slot) as (λ _. IsSoundSlot (slot_bytes k image)) [
      | inl same ↦ let P : ℕ → Type 0 = λ j. IsSoundSlot (slot_bytes j image) in subst P (sym same) sound
      | inr other ↦ subst IsSoundSlot (sym (others k low_k other)) (flash.sound k low_k)
    ];
  }

  pub slots-set : (x : Option Held) → slot_of (slot_bytes slot image) ≡ x → slots_of n image ≡ set slots slot x
  slots-set x is =
      let count : length slots ≡ n = ap length (sym holds) ∙ length-slots_of n base in
      slots_of-is n image (set slots slot x) (length-set slots slot x ∙ count) (λ k low_k.
      elim (cases_eq k slot) as (λ _. slot_of (slot_bytes k image) ≡ get_or (set slots slot x) k None) [
        | inl same ↦
            ap (λ j. slot_of (slot_bytes j image)) same ∙ is
            ∙ sym (get_or-set_same slots slot x None (omega arith)) ∙ ap (λ j. get_or (set slots slot x) j None) (sym same)
        | inr other ↦
            ap slot_of (others k low_k other) ∙ sym (slots_of-at n k base None low_k) ∙ ap (λ (s : List (Option Held)). get_or s k None) holds
            ∙ sym (get_or-set_other slots slot k x None other)
      ])

-- the other slots where a range within one slot may have changed
pub others-outside : (slot at n : ℕ) (base image : List ℕ) → 272 * slot ≤ at → at + n ≤ 272 * slot + 272 → SameOutside at n base image
    → (j : ℕ) → j ≢ slot → slot_bytes j image ≡ slot_bytes j base
others-outside slot at n base image from to same j other =
    slot_bytes-same j image base same.size (λ p low. same.same (272 * j + p) (elim (cases_lt j slot) as (λ _. (272 * j + p < at) ⊎ (at + n ≤ 272 * j + p)) [
      | inl before ↦ inl (omega arith)
      | inr behind ↦ let above : slot < j = omega arith in inr (omega arith)
    ]))

-- A slot that is closed holds nothing, and its gate is closed.
module _ (n slot : ℕ) (base : List ℕ) (slots : List (Option Held))
    (flash : IsFlash n base) (holds : slots_of n base ≡ slots) (low : slot < n)
    (closed : slice_get slots slot ≡ Some None) where
  none-there : slot_of (slot_bytes slot base) ≡ None
  none-there =
      sym (slots_of-at n slot base None low) ∙ ap (λ (s : List (Option Held)). get_or s slot None) holds ∙ get_or_from_slice_get slots slot None None closed

  gate-there : get_or base (272 * slot) 0 ≢ 0xA5
  gate-there gate =
      let at : get_or (slot_bytes slot base) 0 0 ≡ get_or base (272 * slot) 0 = slot_bytes-at slot 0 base (omega arith) ∙ ap (λ p. get_or base p 0) (omega arith) in
      gate-closed (slot_bytes slot base) (flash.sound slot low) none-there (at ∙ gate)

  pub set-none : set slots slot None ≡ slots
  set-none = ap (λ x. set slots slot x) (sym (get_or_from_slice_get slots slot None None closed)) ∙ set-get_or slots slot None

  -- while its body is written
  module _ (image : List ℕ) (same : SameOutside (272 * slot + 1) 271 base image) where
    shut : get_or (slot_bytes slot image) 0 0 ≢ 0xA5
    shut gate =
        let at : get_or (slot_bytes slot image) 0 0 ≡ get_or image (272 * slot) 0 = slot_bytes-at slot 0 image (omega arith) ∙ ap (λ p. get_or image p 0) (omega arith) in
        gate-there (sym (same.same (272 * slot) (inl (omega arith))) ∙ sym at ∙ gate)

    body_others : (j : ℕ) → j < n → j ≢ slot → slot_bytes j image ≡ slot_bytes j base
    body_others j _ other = others-outside slot (272 * slot + 1) 271 base image (omega arith) (omega arith) same j other

    pub body-flash : IsFlash n image
    body-flash = flash-set n slot base image slots flash holds low same.size body_others (λ gate. absurd (shut gate))

    pub body-slots : slots_of n image ≡ slots
    body-slots = slots-set n slot base image slots flash holds low same.size body_others (λ gate. absurd (shut gate)) None (slot_of-closed (slot_bytes slot image) shut) ∙ set-none

-- bytes by their first and the others
front-same : (gate : ℕ) (body bytes : List ℕ) → length bytes ≡ suc (length body) → get_or bytes 0 0 ≡ gate
    → ((p : ℕ) → p < length body → get_or bytes (1 + p) 0 ≡ get_or body p 0) → bytes ≡ gate ∷ body
front-same gate body bytes size first same = ext_get_or 0 bytes (gate ∷ body) size at
  where
    at : (p : ℕ) → p < length bytes → get_or bytes p 0 ≡ get_or (gate ∷ body) p 0
    at zero low = first
    at (suc p) low = let there : 1 + p ≡ suc p = omega arith in ap (λ q. get_or bytes q 0) (sym there) ∙ same p (omega arith)

pub length-body_of : (h : Held) → length h.rec.bytes ≤ 255 → length (body_of h) ≡ 271
length-body_of h fits =
    let unused : List ℕ = replicate (261 - length h.rec.bytes) 0 in
    let count : length unused ≡ 261 - length h.rec.bytes = length-replicate {A = ℕ} (261 - length h.rec.bytes) 0 in
    omega (arith, length-append h.rec.bytes unused)

-- A flash in which the body of one closed slot has been written. Its gate may be written now.
module _ (n slot : ℕ) (base : List ℕ) (slots : List (Option Held)) (h : Held)
    (flash : IsFlash n base) (holds : slots_of n base ≡ slots) (low : slot < n)
    (closed : slice_get slots slot ≡ Some None)
    (fits : length h.rec.bytes ≤ 255) (sound : IsSoundHeld h) where
  pub ends : 272 * slot + 272 ≤ length base
  ends = let size = flash.size in let m : 272 * (slot + 1) ≤ 272 * n = mul-le-mul_left 272 (omega arith) in omega (arith, m)

  pub body-outside : SameOutside (272 * slot + 1) 271 base (written 0 (272 * slot + 1) (body_of h) base)
  body-outside =
      let size = length-body_of h fits in
      let P : ℕ → Type 0 = λ m. SameOutside (272 * slot + 1) m base (written 0 (272 * slot + 1) (body_of h) base) in
      subst P size (written-outside (272 * slot + 1) (body_of h) base (omega (arith, ends)))

  module _ (image : List ℕ) (same : SameOutside (272 * slot) 1 (written 0 (272 * slot + 1) (body_of h) base) image) where
    gate_size : length image ≡ length base
    gate_size = same.size ∙ body-outside.size

    gate_others : (j : ℕ) → j < n → j ≢ slot → slot_bytes j image ≡ slot_bytes j base
    gate_others j _ other =
        others-outside slot (272 * slot) 1 _ image (omega arith) (omega arith) same j other
        ∙ others-outside slot (272 * slot + 1) 271 base _ (omega arith) (omega arith) body-outside j other

    -- an open gate
    opened : get_or (slot_bytes slot image) 0 0 ≡ 0xA5 → slot_bytes slot image ≡ 0xA5 ∷ body_of h
    opened gate =
        let size = length-body_of h fits in
        front-same 0xA5 (body_of h) (slot_bytes slot image) (omega (arith, length-slot_bytes slot image, gate_size, ends)) gate (λ p low.
        let at : 272 * slot + (1 + p) ≡ 272 * slot + 1 + p = omega arith in
        slot_bytes-at slot (1 + p) image (omega arith)
        ∙ same.same (272 * slot + (1 + p)) (inr (omega arith))
        ∙ ap (λ q. get_or (written 0 (272 * slot + 1) (body_of h) base) q 0) at
        ∙ get_or-written_there 0 (272 * slot + 1) (body_of h) base p low)

    gate-holds : get_or (slot_bytes slot image) 0 0 ≡ 0xA5 → slot_of (slot_bytes slot image) ≡ Some h
    gate-holds gate = ap slot_of (opened gate) ∙ slot_of-layout h fits (omega (arith, sound.seq))

    gate_sound : IsSoundSlot (slot_bytes slot image)
    gate_sound gate = subst HoldsSound (sym (gate-holds gate)) sound

    pub gate-flash : IsFlash n image
    gate-flash = flash-set n slot base image slots flash holds low gate_size gate_others gate_sound

    pub gate-stored : get_or (slot_bytes slot image) 0 0 ≡ 0xA5 → slots_of n image ≡ set slots slot (Some h)
    gate-stored gate = slots-set n slot base image slots flash holds low gate_size gate_others gate_sound (Some h) (gate-holds gate)

    pub gate-slots : (slots_of n image ≡ slots) ⊎ (slots_of n image ≡ set slots slot (Some h))
    gate-slots = elim (cases_eq (get_or (slot_bytes slot image) 0 0) 0xA5) as (λ _. (slots_of n image ≡ slots) ⊎ (slots_of n image ≡ set slots slot (Some h))) [
      | inl gate ↦ inr (gate-stored gate)
      | inr shut ↦ inl (slots-set n slot base image slots flash holds low gate_size gate_others gate_sound None (slot_of-closed (slot_bytes slot image) shut) ∙ set-none n slot base slots flash holds low closed)
    ]
