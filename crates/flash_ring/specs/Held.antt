-- What a slot of the flash holds, as the layers above see it.
use Rattle.std.specs.Prelude.{◌≡◌, ◌⊎◌, ℕ, suc, ◌+◌, ◌<◌, ◌≤◌, ◌^◌, max, Bool, true, false, List, [], ◌∷◌, length, Option, Some, None, set, slice_get}
use Rattle.avl_values.specs.Record.{Record}
use Rattle.record_codecs.specs.SomeRecord.{IsSomeRecord}

-- a record, and the sequence under which it was stored
pub record Held : Type 0 where
  pub seq : ℕ
  pub rec : Record

-- A slot that holds a record is sound where its sequence is below 2^63 and its bytes are one whole record of its codec, of at
-- most 255 bytes.
pub record IsSoundHeld (h : Held) : Type 0 where
  pub seq : h.seq < 2 ^ 63
  pub whole : IsSomeRecord h.rec.codec h.rec.bytes
  pub few : length h.rec.bytes ≤ 255

-- each record that is held is sound
pub record AreSound (slots : List (Option Held)) : Type 0 where
  pub each : (k : ℕ) (h : Held) → slice_get slots k ≡ Some (Some h) → IsSoundHeld h

-- each sequence that is held is below this one
abbrev pub AreBelow : ℕ → List (Option Held) → Type 0
AreBelow next slots = (k : ℕ) (h : Held) → slice_get slots k ≡ Some (Some h) → h.seq < next

-- one more than the greatest sequence that is held, or 0
abbrev pub next_of : List (Option Held) → ℕ
next_of [] = 0
next_of (None ∷ slots) = next_of slots
next_of (Some h ∷ slots) = max (h.seq + 1) (next_of slots)

-- every slot is open
abbrev pub is_full : List (Option Held) → Bool
is_full [] = true
is_full (None ∷ slots) = false
is_full (Some h ∷ slots) = is_full slots

-- the closed slot with the lowest number
abbrev pub first_closed : List (Option Held) → ℕ
first_closed [] = 0
first_closed (None ∷ slots) = 0
first_closed (Some h ∷ slots) = suc (first_closed slots)

-- a record put into the closed slot with the lowest number
abbrev pub put_in : List (Option Held) → Held → List (Option Held)
put_in slots h = set slots (first_closed slots) (Some h)

-- these slots closed, one after the other
abbrev pub closed_all : List ℕ → List (Option Held) → List (Option Held)
closed_all [] slots = slots
closed_all (k ∷ ks) slots = closed_all ks (set slots k None)

-- this slot is open
abbrev pub IsOpen : ℕ → List (Option Held) → Type 0
IsOpen k slots = (h : Held) × (slice_get slots k ≡ Some (Some h))

-- the record of a slot, where it is open
abbrev pub rec_in : Option (Option Held) → Option Record
rec_in None = None
rec_in (Some None) = None
rec_in (Some (Some h)) = Some h.rec

abbrev pub rec_at : List (Option Held) → ℕ → Option Record
rec_at slots k = rec_in (slice_get slots k)

-- a list is a part of another, in order
abbrev pub IsPart : {A : Type 0} → List A → List A → Type 0
IsPart [] ys = Unit {0}
IsPart (x ∷ xs) [] = ⊥
IsPart (x ∷ xs) (y ∷ ys) = ((x ≡ y) × IsPart xs ys) ⊎ IsPart (x ∷ xs) ys
