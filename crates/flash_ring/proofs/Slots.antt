-- A flash slot by slot.
use Rattle.std.proofs.Common.{◌≡◌, ◌≢◌, inl, inr, ℕ, ◌+◌, ◌-◌, ◌*◌, ◌<◌, ◌≤◌, ◌^◌, min, if◌then◌else◌, Bool, false, List, [], ◌∷◌, ◌++◌, length, get_or, take, drop, replicate, Option, Some, None, sym, ◌∙◌, ap, refl, subst, arith, eqb, length-take, length-drop}
use Rattle.std.specs.Int.{w64, to_be_bytes, from_be_bytes}
use Rattle.std.proofs.lemmas.Bool.{cases_eq, eq-eqb}
use Rattle.std.proofs.lemmas.Bool.Decides.{eqb_tells}
use Rattle.std.proofs.lemmas.List.{ext_get_or, get_or-take, get_or-drop, take_at, drop_at}
use Rattle.std.proofs.lemmas.List.FromFn.{length-map-range_with_len, get_or-map-range_with_len}
use Rattle.std.proofs.lemmas.Nat.{from_be_bytes-to_be_bytes_8}
use Rattle.avl_values.specs.declared.codec.Codec.{Codec}
use Rattle.avl_values.specs.declared.codec.Codec.TheVariants.{C8, C8E, C16}
use Rattle.avl_values.specs.Codec.{codec_of, id_of}
use Rattle.flash_ring.specs.Held.{Held}
use Rattle.flash_ring.specs.Slot.{body_of, fields_of, slot_of, HoldsSound, IsSoundSlot, slot_bytes, slots_of}

pub length-slots_of : (n : ℕ) (flash : List ℕ) → length (slots_of n flash) ≡ n
unfolding slots_of
length-slots_of n flash = length-map-range_with_len (λ k. slot_of (slot_bytes k flash)) 0 n

pub slots_of-at : (n k : ℕ) (flash : List ℕ) (d : Option Held) → k < n → get_or (slots_of n flash) k d ≡ slot_of (slot_bytes k flash)
unfolding slots_of
slots_of-at n k flash d low = get_or-map-range_with_len (λ k. slot_of (slot_bytes k flash)) 0 n k k d low (omega arith)

pub slots_of-is : (n : ℕ) (flash : List ℕ) (slots : List (Option Held)) → length slots ≡ n
    → ((k : ℕ) → k < n → slot_of (slot_bytes k flash) ≡ get_or slots k None) → slots_of n flash ≡ slots
slots_of-is n flash slots size each =
    ext_get_or None (slots_of n flash) slots (length-slots_of n flash ∙ sym size)
    (λ k low. let low_n : k < n = omega (arith, length-slots_of n flash) in slots_of-at n k flash None low_n ∙ each k low_n)

-- the bytes of one slot
pub slot_bytes-at : (k p : ℕ) (flash : List ℕ) → p < 272 → get_or (slot_bytes k flash) p 0 ≡ get_or flash (272 * k + p) 0
slot_bytes-at k p flash low = get_or-take 272 (drop (272 * k) flash) p 0 low ∙ get_or-drop (272 * k) flash p 0

pub length-slot_bytes : (k : ℕ) (flash : List ℕ) → length (slot_bytes k flash) ≡ min 272 (length flash - 272 * k)
length-slot_bytes k flash = omega (arith, length-take 272 (drop (272 * k) flash), length-drop (272 * k) flash)

pub slot_bytes-same : (k : ℕ) (a b : List ℕ) → length a ≡ length b → ((p : ℕ) → p < 272 → get_or a (272 * k + p) 0 ≡ get_or b (272 * k + p) 0) → slot_bytes k a ≡ slot_bytes k b
slot_bytes-same k a b size same =
    ext_get_or 0 (slot_bytes k a) (slot_bytes k b) (omega (arith, length-slot_bytes k a, length-slot_bytes k b))
    (λ p low. let within : p < 272 = omega (arith, length-slot_bytes k a) in slot_bytes-at k p a within ∙ same p within ∙ sym (slot_bytes-at k p b within))

pub eqb-not : (a b : ℕ) → a ≢ b → eqb a b ≡ false
eqb-not a b apart = elim (eqb_tells a b) as (λ _. eqb a b ≡ false) [ inl same ↦ absurd (apart same.1) | inr other ↦ other.0 ]

-- a closed gate
pub slot_of-closed : (bytes : List ℕ) → get_or bytes 0 0 ≢ 0xA5 → slot_of bytes ≡ None
unfolding slot_of
slot_of-closed bytes closed =
    let P : Bool → Type 0 = λ b. (if b then fields_of bytes (codec_of (get_or bytes 1 0)) else None) ≡ None in
    subst P (sym (eqb-not (get_or bytes 0 0) 0xA5 closed)) refl

pub slot_of-open : (bytes : List ℕ) → get_or bytes 0 0 ≡ 0xA5 → slot_of bytes ≡ fields_of bytes (codec_of (get_or bytes 1 0))
unfolding slot_of
slot_of-open bytes gate =
    let P : Bool → Type 0 = λ b. (if b then fields_of bytes (codec_of (get_or bytes 1 0)) else None) ≡ fields_of bytes (codec_of (get_or bytes 1 0)) in
    subst P (sym (eq-eqb (get_or bytes 0 0) 0xA5 gate)) refl

-- a slot that holds nothing, and is sound, has a closed gate
pub gate-closed : (bytes : List ℕ) → IsSoundSlot bytes → slot_of bytes ≡ None → get_or bytes 0 0 ≢ 0xA5
gate-closed bytes sound none gate = subst HoldsSound none (sound gate)

-- a slot that holds something has an open gate
pub gate-open : (bytes : List ℕ) (h : Held) → slot_of bytes ≡ Some h → get_or bytes 0 0 ≡ 0xA5
gate-open bytes h some = elim (cases_eq (get_or bytes 0 0) 0xA5) as (λ _. get_or bytes 0 0 ≡ 0xA5) [
  | inl is ↦ is
  | inr closed ↦ absurd (let none : None ≡ Some h = sym (slot_of-closed bytes closed) ∙ some in cc)
]

codec_of-id : (c : Codec) → codec_of (id_of c) ≡ Some c
codec_of-id C8 = refl
codec_of-id C8E = refl
codec_of-id C16 = refl

-- what was laid out is read again
pub slot_of-layout : (h : Held) → length h.rec.bytes ≤ 255 → h.seq < 2 ^ 64 → slot_of (0xA5 ∷ body_of h) ≡ Some h
slot_of-layout h fits seq =
    let bytes = 0xA5 ∷ body_of h in
    let tail = h.rec.bytes ++ replicate (261 - length h.rec.bytes) 0 in
    let words = to_be_bytes w64 h.seq in
    let fields : fields_of bytes (codec_of (id_of h.rec.codec)) ≡ fields_of bytes (Some h.rec.codec) = ap (fields_of bytes) (codec_of-id h.rec.codec) in
    let front : take 8 (words ++ tail) ≡ words = take_at words tail 8 refl in
    let rest : drop 8 (words ++ tail) ≡ tail = drop_at words tail 8 refl in
    let seq_is : from_be_bytes w64 (take 8 (words ++ tail)) ≡ h.seq = ap (from_be_bytes w64) front ∙ from_be_bytes-to_be_bytes_8 h.seq seq in
    let rec_is : take (length h.rec.bytes) (drop 8 (words ++ tail)) ≡ h.rec.bytes = ap (take (length h.rec.bytes)) rest ∙ take_at h.rec.bytes (replicate (261 - length h.rec.bytes) 0) (length h.rec.bytes) refl in
    slot_of-open bytes refl ∙ fields
    ∙ ap (λ n. Some (record { seq = n; rec = record { codec = h.rec.codec; bytes = take (length h.rec.bytes) (drop 8 (words ++ tail)) } })) seq_is
    ∙ ap (λ b. Some (record { seq = h.seq; rec = record { codec = h.rec.codec; bytes = b } })) rec_is
