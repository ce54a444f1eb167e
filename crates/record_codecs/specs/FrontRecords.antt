-- Records at the front of some bytes.
use Rattle.std.specs.Prelude.{◌≡◌, ℕ, List, ◌++◌, length}
use Rattle.std.specs.List.{flat_map, AllByRecursion}
use Rattle.avl_values.specs.declared.codec.Codec.{Codec}
use Rattle.record_layout.specs.SomeRecord.{IsSomeRecord}

-- N records in this codec, one after the other, and then these bytes
pub record BeginWithRecords (codec : Codec) (count : ℕ) (behind bytes : List ℕ) : Type 0 where
  pub records : List (List ℕ)
  pub counted : length records ≡ count
  pub each : AllByRecursion (IsSomeRecord codec) records
  pub is : bytes ≡ flat_map (λ r. r) records ++ behind
