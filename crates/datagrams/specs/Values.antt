-- What a datagram and its reply say (Teltonika, Data Sending Protocols, "Codec 8 protocol sending over UDP").
use Rattle.std.specs.Prelude.{ℕ, List}

-- The packet id, the byte that isn't used and the AVL packet id, which its reply says again; the device; and the data body.
pub record DatagramValue : Type 0 where
  pub packet : ℕ
  pub unused : ℕ
  pub avl_packet : ℕ
  pub imei : ℕ
  pub body : List ℕ

-- The datagram's three numbers, and how many of its records were accepted.
pub record ReplyValue : Type 0 where
  pub packet : ℕ
  pub unused : ℕ
  pub avl_packet : ℕ
  pub count : ℕ
