-- An accepted data body: the one word for what a reader of bodies accepts, a writer of frames asks for and an archive takes in.
use Rattle.std.specs.Prelude.{◌≡◌, ℕ, List, length}
use Rattle.record_layout.specs.declared.head.PacketHead.{PacketHead}
use Rattle.record_layout.specs.Packet.{IsPacket}

-- these bytes are a data body, and it says this first
pub record IsBody (head : PacketHead) (body : List ℕ) : Type 0 where
  pub records : List (List ℕ)
  pub packet : IsPacket head.codec records body
  pub count : head.count ≡ length records
