-- Datagrams and replies as whole lists of bytes (Teltonika, Data Sending Protocols, "Codec 8 protocol sending over UDP").
use Rattle.std.specs.Prelude.{◌≡◌, ℕ, ◌<◌, ◌^◌, List, [], ◌∷◌, ◌++◌, length}
use Rattle.std.specs.Int.{to_be_bytes, w16}
use Rattle.layout.specs.Bytes.{AreBytes}
use Rattle.record_layout.specs.declared.head.PacketHead.{PacketHead}
use Rattle.record_layout.specs.Body.{IsBody}
use Rattle.frame_layout.specs.Items.{login_of}
use Rattle.datagrams.specs.Values.{DatagramValue, ReplyValue}

-- the three numbers, the IMEI as a login holds it, and the data body
abbrev pub content_of : DatagramValue → List ℕ
content_of v = to_be_bytes w16 v.packet ++ v.unused ∷ v.avl_packet ∷ (login_of v.imei ++ v.body)

-- how many bytes follow, in two bytes, and these
abbrev pub datagram_of : DatagramValue → List ℕ
datagram_of v = to_be_bytes w16 (length (content_of v)) ++ content_of v

-- the length 5 in two bytes, the three numbers and the count
abbrev pub reply_of : ReplyValue → List ℕ
reply_of v = 0 ∷ 5 ∷ (to_be_bytes w16 v.packet ++ v.unused ∷ v.avl_packet ∷ v.count ∷ [])

-- these bytes are the datagram of this value
pub record IsDatagram (v : DatagramValue) (bytes : List ℕ) : Type 0 where
  pub is : bytes ≡ datagram_of v
  pub head : PacketHead
  pub of_body : IsBody head v.body
  pub packet : v.packet < 2 ^ 16
  pub unused : v.unused < 256
  pub avl_packet : v.avl_packet < 256
  pub imei : v.imei < 10 ^ 15
  pub fits : length (content_of v) < 2 ^ 16
  pub are_bytes : AreBytes v.body

-- these bytes are the reply of this value
pub record IsReply (v : ReplyValue) (bytes : List ℕ) : Type 0 where
  pub is : bytes ≡ reply_of v
  pub packet : v.packet < 2 ^ 16
  pub unused : v.unused < 256
  pub avl_packet : v.avl_packet < 256
  pub count : v.count < 256
