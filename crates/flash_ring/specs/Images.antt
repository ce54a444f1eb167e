-- What a power loss may leave of a flash, said of its slots.
use Rattle.std.specs.Prelude.{◌≡◌, ◌⊎◌, ℕ, ◌+◌, ◌==◌, ◌||◌, Bool, false, IsTrue, List, [], ◌∷◌, length, take, slice_get, Option, Some, None}
use Rattle.medium_model.specs.CallsLeft.{CallsLeft, unknown, unlimited, after, exhausted}
use Rattle.medium_model.specs.Content.{Content}
use Rattle.medium_model.specs.Images as images
use Rattle.medium_model.specs.Images.{IsSame}
use Rattle.flash_ring.specs.Held.{Held}
use Rattle.flash_ring.specs.Slot.{IsFlash, slot_bytes, slots_of}

-- all that is read is durable, and it is n sound slots that hold this
abbrev pub IsSettled : ℕ → List (Option Held) → Content → Type 0
IsSettled n slots = images.IsSettled (IsFlash n) (slots_of n) (IsSame slots)

-- an image is n sound slots, and what they hold has P
abbrev pub HoldsWith : ℕ → (List (Option Held) → Type 0) → List ℕ → Type 0
HoldsWith n P = images.HoldsWith (IsFlash n) (slots_of n) P

-- one of these slots is this
abbrev pub has_slot : List ℕ → ℕ → Bool
has_slot [] j = false
has_slot (k ∷ ks) j = (k == j) || has_slot ks j

-- each slot is as before, or one of these and closed
pub record MayClose (ks : List ℕ) (before left : List (Option Held)) : Type 0 where
  pub size : length left ≡ length before
  pub each : (j : ℕ) → (slice_get left j ≡ slice_get before j) ⊎ (IsTrue (has_slot ks j) × (slice_get left j ≡ Some None))

-- The slots whose gates may have been written when a release of these failed: they are written in the order given, so where
-- it is told that k calls pass, the power loss meets the next gate.
abbrev pub reached : CallsLeft → List ℕ → List ℕ
reached unknown ks = ks
reached unlimited ks = ks
reached (after k) ks = take (k + 1) ks
reached exhausted ks = take 1 ks

-- each of these slots is open
abbrev pub AreOpen : List ℕ → List (Option Held) → Type 0
AreOpen ks slots = (j : ℕ) → IsTrue (has_slot ks j) → (h : Held) × (slice_get slots j ≡ Some (Some h))

-- no slot stands twice
abbrev pub AreDistinct : List ℕ → Type 0
AreDistinct [] = Unit {0}
AreDistinct (k ∷ ks) = (IsTrue (has_slot ks k) → ⊥) × AreDistinct ks

-- every other slot stays, byte for byte
abbrev pub OthersStay : List ℕ → Option Content → Option Content → Type 0
OthersStay ks None new = Unit {0}
OthersStay ks (Some old) None = ⊥
OthersStay ks (Some old) (Some new) = (j : ℕ) → (IsTrue (has_slot ks j) → ⊥) → slot_bytes j new.reads ≡ slot_bytes j old.reads
