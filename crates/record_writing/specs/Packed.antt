-- Records in a row, as bytes.
use Rattle.std.specs.Prelude.{◌≡◌, ℕ, ◌<◌, List}
use Rattle.std.specs.List.{flat_map, AllByRecursion}
use Rattle.avl_values.specs.declared.codec.Codec.{Codec}
use Rattle.record_layout.specs.RecordsOf.{records_in}
use Rattle.record_layout.specs.SomeRecord.{IsSomeRecord}

-- the bytes are N records, at most 255, and nothing else
pub record ArePacked (codec : Codec) (count : ℕ) (bytes : List ℕ) : Type 0 where
  pub joined : bytes ≡ flat_map (λ r. r) (records_in codec count bytes)
  pub each : AllByRecursion (IsSomeRecord codec) (records_in codec count bytes)
  pub few : count < 256
