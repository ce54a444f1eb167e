-- Data bodies (Teltonika, Data Sending Protocols, data field).
use Rattle.std.specs.Prelude.{◌≡◌, ℕ, ◌<◌, List, [], ◌∷◌, ◌++◌, length}
use Rattle.std.specs.List.{flat_map, AllByRecursion}
use Rattle.avl_values.specs.Codec.{id_of}
use Rattle.avl_values.specs.declared.codec.Codec.{Codec}
use Rattle.record_layout.specs.SomeRecord.{IsSomeRecord}

-- the codec id, the number of records, the records, and the number of records once more
abbrev pub packet_bytes : Codec → List (List ℕ) → List ℕ
packet_bytes codec records = id_of codec ∷ length records ∷ (flat_map (λ r. r) records ++ length records ∷ [])

-- these bytes are the data body of these records, of which there are 1 to 255
pub record IsPacket (codec : Codec) (records : List (List ℕ)) (bytes : List ℕ) : Type 0 where
  pub is : bytes ≡ packet_bytes codec records
  pub each : AllByRecursion (IsSomeRecord codec) records
  pub some : 0 < length records
  pub few : length records < 256
