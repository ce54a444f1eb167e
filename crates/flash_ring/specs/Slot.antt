-- How a record lies in a slot of the flash, 272 bytes (this project's own): gate (1 byte), codec id (1), record length (1),
-- sequence (8), record (255), unused (6). The gate is open exactly where it is A5. Bytes past the record's length are
-- written as zero.
use Rattle.std.specs.Prelude.{◌≡◌, ℕ, ◌-◌, ◌*◌, ◌<◌, ◌==◌, if◌then◌else◌, List, ◌∷◌, ◌++◌, length, get_or, take, drop, replicate, map, Option, Some, None}
use Rattle.std.specs.Int.{w64, to_be_bytes, from_be_bytes}
use Rattle.std.specs.List.{range_with_len}
use Rattle.avl_values.specs.declared.codec.Codec.{Codec}
use Rattle.avl_values.specs.Codec.{codec_of, id_of}
use Rattle.flash_ring.specs.Held.{Held, IsSoundHeld}

-- the slot after its gate, 271 bytes
abbrev pub body_of : Held → List ℕ
body_of h = id_of h.rec.codec ∷ length h.rec.bytes ∷ to_be_bytes w64 h.seq ++ (h.rec.bytes ++ replicate (261 - length h.rec.bytes) 0)

-- what the fields after an open gate say
abbrev pub fields_of : List ℕ → Option Codec → Option Held
fields_of bytes None = None
fields_of bytes (Some codec) = Some (record {
  seq = from_be_bytes w64 (take 8 (drop 3 bytes));
  rec = record { codec = codec; bytes = take (get_or bytes 2 0) (drop 11 bytes) };
})

-- what a slot holds: nothing where its gate is closed
unfoldable pub slot_of : List ℕ → Option Held
slot_of bytes = if get_or bytes 0 0 == 0xA5 then fields_of bytes (codec_of (get_or bytes 1 0)) else None

abbrev pub HoldsSound : Option Held → Type 0
HoldsSound None = ⊥
HoldsSound (Some h) = IsSoundHeld h

-- A slot is sound where its gate is closed, or where its fields are a codec, a sequence below 2^63 and one whole record.
abbrev pub IsSoundSlot : List ℕ → Type 0
IsSoundSlot bytes = get_or bytes 0 0 ≡ 0xA5 → HoldsSound (slot_of bytes)

-- the bytes of slot k
abbrev pub slot_bytes : ℕ → List ℕ → List ℕ
slot_bytes k flash = take 272 (drop (272 * k) flash)

-- what the first n slots hold
unfoldable pub slots_of : ℕ → List ℕ → List (Option Held)
slots_of n flash = map (λ k. slot_of (slot_bytes k flash)) (range_with_len 0 n)

-- These bytes are n whole slots, each of them sound.
pub record IsFlash (n : ℕ) (flash : List ℕ) : Type 0 where
  pub size : length flash ≡ 272 * n
  pub sound : (k : ℕ) → k < n → IsSoundSlot (slot_bytes k flash)

-- the first slot that isn't sound
pub record IsFirstUnsound (n : ℕ) (flash : List ℕ) (slot : ℕ) : Type 0 where
  pub low : slot < n
  pub before : (k : ℕ) → k < slot → IsSoundSlot (slot_bytes k flash)
  pub unsound : IsSoundSlot (slot_bytes slot flash) → ⊥
