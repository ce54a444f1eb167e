-- The records of a batch of slots as one data body.
use Rattle.std.specs.Prelude.{◌≡◌, ℕ, ◌<◌, ◌≤◌, List, [], ◌∷◌, ◌++◌, length, map, Option, Some, None}
use Rattle.avl_values.specs.declared.codec.Codec.{Codec}
use Rattle.avl_values.specs.Record.{Record}
use Rattle.record_layout.specs.Packet.{IsPacket}
use Rattle.record_writing.specs.Packing.{Packing}
use Rattle.record_writing.specs.Room.{HasRoomFor}
use Rattle.flash_ring.specs.Held.{Held, rec_at}
use Rattle.flash_ring.specs.Images.{AreOpen}
use Rattle.flash_ring.specs.Records.{IsBatch, recs_in}
use Rattle.tracker_session.specs.Batches.{body_of, bytes_in}

-- open slots whose records make one data body
pub record AreBatch (slots : List (Option Held)) (batch : List ℕ) : Type 0 where
  pub opens : AreOpen batch slots
  pub recs : IsBatch 1265 (recs_in slots batch)
  pub few : length batch < 256

-- a record of the body's codec, for which there is room
pub record CanAdd (body : Packing) (slots : List (Option Held)) (slot : ℕ) : Type 0 where
  pub rec : Record
  pub at : rec_at slots slot ≡ Some rec
  pub codec : rec.codec ≡ body.codec
  pub room : HasRoomFor body rec.bytes

-- with the record of this slot
abbrev pub with_bytes : Option Record → Packing → Packing
with_bytes None body = body
with_bytes (Some r) body = record body { records = body.records ++ r.bytes ∷ [] }

-- these bytes are the data body of these records
pub record IsBodyOf (records : List Record) (bytes : List ℕ) : Type 0 where
  pub codec : Codec
  pub is : bytes ≡ body_of records
  pub packet : IsPacket codec (map bytes_in records) bytes
  pub few : length bytes ≤ 1268
