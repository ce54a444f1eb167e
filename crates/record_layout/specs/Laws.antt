-- The laws of data bodies.
use Rattle.std.specs.Prelude.{◌≡◌, ℕ, ◌≤◌, List, ◌++◌, length, take, map}
use Rattle.avl_values.specs.declared.codec.Codec.{Codec}
use Rattle.layout.specs.Bytes.{AreBytes}
use Rattle.layout.specs.Rows.{whole, short}
use Rattle.record_layout.specs.declared.head.PacketHead.{PacketHead}
use Rattle.record_layout.specs.Body.{IsBody}
use Rattle.record_layout.specs.Packet.{IsPacket}
use Rattle.record_layout.specs.PacketRows.{packet_verdict}
use Rattle.record_layout.specs.RecordsOf.{count_of, records_of}

-- A whole verdict says that the body of N bytes is there and is a packet.
abbrev pub WholeIsPacket : Type 0
WholeIsPacket = (total n : ℕ) (head : PacketHead) (bytes : List ℕ) → AreBytes bytes → packet_verdict total bytes ≡ whole head n
    → (records : List (List ℕ)) × (n ≡ total) × (total ≤ length bytes) × IsPacket head.codec records (take total bytes) × (head.count ≡ length records)

-- And a packet's verdict is whole, whatever follows.
abbrev pub PacketIsWhole : Type 0
PacketIsWhole = (codec : Codec) (records : List (List ℕ)) (bytes more : List ℕ) → IsPacket codec records bytes
    → packet_verdict (length bytes) (bytes ++ more) ≡ whole (record { codec = codec; count = length records }) (length bytes)

-- A verdict that has come stays, whatever follows.
abbrev pub PacketVerdictStays : Type 0
PacketVerdictStays = (total : ℕ) (bytes more : List ℕ) → (packet_verdict total bytes ≡ short → ⊥) → packet_verdict total (bytes ++ more) ≡ packet_verdict total bytes

-- No packet begins another.
abbrev pub NoPacketBeginsAnother : Type 0
NoPacketBeginsAnother = (c d : Codec) (rs ss : List (List ℕ)) (a b x y : List ℕ) → IsPacket c rs a → IsPacket d ss b → a ++ x ≡ b ++ y → (a ≡ b) × (c ≡ d) × (rs ≡ ss)

-- The records of a packet are those that are read from its bytes.
abbrev pub RecordsAreRead : Type 0
RecordsAreRead = (codec : Codec) (records : List (List ℕ)) (bytes : List ℕ) → IsPacket codec records bytes
    → records_of bytes ≡ map (λ r. record { codec = codec; bytes = r }) records

-- Bytes that are judged to be a whole body are one.
abbrev pub WholeIsBody : Type 0
WholeIsBody = (head : PacketHead) (body : List ℕ) → AreBytes body → packet_verdict (length body) body ≡ whole head (length body) → IsBody head body

-- And a body is judged to be whole.
abbrev pub BodyIsWhole : Type 0
BodyIsWhole = (head : PacketHead) (body : List ℕ) → IsBody head body → packet_verdict (length body) body ≡ whole head (length body)

-- Its head's number of records is that of the records that are read from it.
abbrev pub BodyIsCounted : Type 0
BodyIsCounted = (head : PacketHead) (body : List ℕ) → IsBody head body → head.count ≡ count_of body
