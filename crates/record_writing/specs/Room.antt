-- Which records still have room in a tracker's data body (this project's own limits).
use Rattle.std.specs.Prelude.{ℕ, ◌<◌, ◌≤◌, List, [], ◌∷◌, ◌++◌, length}
use Rattle.record_layout.specs.Packet.{packet_bytes}
use Rattle.record_writing.specs.Packing.{Packing}

-- with this record there are at most 255 records, and at most 1,268 bytes to the second number of records
pub record HasRoomFor (body : Packing) (more : List ℕ) : Type 0 where
  pub few : length body.records < 255
  pub short : length (packet_bytes body.codec (body.records ++ more ∷ [])) ≤ 1268
