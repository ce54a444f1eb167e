-- A data frame at the front of some bytes.
use Rattle.std.specs.Prelude.{◌≡◌, ℕ, ◌+◌, ◌≤◌, true, List, [], ◌∷◌, ◌++◌, length, take}
use Rattle.std.specs.Int.{to_be_bytes, w32}
use Rattle.layout.specs.Bytes.{AreBytes}
use Rattle.command_layout.specs.declared.way.Way.TheVariants.{Up}
use Rattle.item_streams.specs.Readers.{Reader}
use Rattle.frame_layout.specs.Items.{IsFrame}
use Rattle.frame_layout.specs.declared.body_kind.BodyKind.TheVariants.{Packet}
use Rattle.record_layout.specs.declared.head.PacketHead.{PacketHead}

-- the frame of this body, which says this first, is whole at the front
pub record BeginsWith (head : PacketHead) (body bytes : List ℕ) : Type 0 where
  pub fits : 12 + length body ≤ length bytes
  pub is : IsFrame Up (Packet head) body (take (12 + length body) bytes)

-- and it is the next item of a reader, which has no byte of another
pub record IsNext (s : Reader) (head : PacketHead) (body piece : List ℕ) : Type 0 where
  pub after_login : s.after_first ≡ true
  pub none : s.have ≡ []
  pub begins : BeginsWith head body piece

-- the four zeros, the body's length and the body stand at the front, and these bytes after them
pub record BeginsWithBody (body behind bytes : List ℕ) : Type 0 where
  pub is : bytes ≡ 0 ∷ 0 ∷ 0 ∷ 0 ∷ (to_be_bytes w32 (length body) ++ (body ++ behind))
  pub few : length body ≤ 65535
  pub are_bytes : AreBytes body
