-- What an item of a TCP connection says (Teltonika, Data Sending Protocols, "Codec 8 protocol sending over TCP" and Codecs 12
-- to 15).
use Rattle.std.specs.Prelude.{ℕ, List}
use Rattle.record_layout.specs.declared.head.PacketHead.{PacketHead}
use Rattle.frame_layout.specs.declared.body_kind.BodyKind.{BodyKind}
use Rattle.frame_layout.specs.declared.body_kind.BodyKind.TheVariants.{Packet, Command}

-- up: a login says its IMEI, a data frame what its body says first, and the body, and the frame of a response its body
pub data UpValue : Type 0 where
  login : ℕ → UpValue
  packet : PacketHead → List ℕ → UpValue
  response : List ℕ → UpValue

-- down: the login's answer says its byte, a count its number of records, and the frame of a command its body
pub data DownValue : Type 0 where
  answer : ℕ → DownValue
  count : ℕ → DownValue
  order : List ℕ → DownValue

-- what a frame up says, by what its body is
abbrev pub frame_value : BodyKind → List ℕ → UpValue
frame_value (Packet head) body = packet head body
frame_value Command body = response body
