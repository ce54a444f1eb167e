-- What the laws of the ring speak of: the records that are held, those of a batch, and sequences that stand once.
use Rattle.std.specs.Prelude.{◌≡◌, ℕ, ◌+◌, ◌≤◌, not, List, [], ◌∷◌, length, Option, Some, slice_get}
use Rattle.std.specs.List.{Contains, filter, filter_map}
use Rattle.avl_values.specs.Record.{Record}
use Rattle.avl_values.specs.declared.codec.Codec.{Codec}
use Rattle.flash_ring.specs.Entries.{Entry}
use Rattle.flash_ring.specs.Held.{Held, rec_at}
use Rattle.flash_ring.specs.Images.{has_slot}

-- the entries of other slots than these
abbrev pub without : List ℕ → List Entry → List Entry
without ks es = filter (λ e. not (has_slot ks e.slot)) es

-- the records of these slots, in the order given
abbrev pub recs_in : List (Option Held) → List ℕ → List Record
recs_in slots ks = filter_map (rec_at slots) ks

-- No two open slots have one sequence.
pub record HasDistinctSeqs (slots : List (Option Held)) : Type 0 where
  pub distinct : (j k : ℕ) (g h : Held) → slice_get slots j ≡ Some (Some g) → slice_get slots k ≡ Some (Some h) → g.seq ≡ h.seq → j ≡ k

-- how many bytes these records have together
abbrev pub bytes_of : List Record → ℕ
bytes_of [] = 0
bytes_of (r ∷ rs) = length r.bytes + bytes_of rs

-- Records that make one data body: of one codec, at most that many record bytes, at most 255 records.
pub record IsBatch (room : ℕ) (recs : List Record) : Type 0 where
  pub codec : Codec
  pub one_codec : (r : Record) → Contains recs r → r.codec ≡ codec
  pub fits : bytes_of recs ≤ room
  pub few : length recs ≤ 255
