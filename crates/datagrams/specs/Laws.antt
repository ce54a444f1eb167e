-- The laws of datagrams and replies.
use Rattle.std.specs.Prelude.{◌≡◌, ℕ, ◌≤◌, List, ◌++◌, length, take}
use Rattle.layout.specs.Bytes.{AreBytes}
use Rattle.layout.specs.Rows.{whole, short}
use Rattle.datagrams.specs.DatagramRows.{datagram_verdict, reply_verdict}
use Rattle.datagrams.specs.Items.{IsDatagram, IsReply}
use Rattle.datagrams.specs.Values.{DatagramValue, ReplyValue}

-- A whole verdict says that the datagram of N bytes is there.
abbrev pub WholeIsDatagram : Type 0
WholeIsDatagram = (total n : ℕ) (v : DatagramValue) (bytes : List ℕ) → AreBytes bytes → datagram_verdict total bytes ≡ whole v n
    → (n ≡ total) × (total ≤ length bytes) × IsDatagram v (take total bytes)

-- And a datagram's verdict is whole, whatever follows.
abbrev pub DatagramIsWhole : Type 0
DatagramIsWhole = (v : DatagramValue) (bytes more : List ℕ) → IsDatagram v bytes → datagram_verdict (length bytes) (bytes ++ more) ≡ whole v (length bytes)

-- A verdict that has come stays, for one total, whatever follows.
abbrev pub DatagramVerdictStays : Type 0
DatagramVerdictStays = (total : ℕ) (bytes more : List ℕ) → (datagram_verdict total bytes ≡ short → ⊥) → datagram_verdict total (bytes ++ more) ≡ datagram_verdict total bytes

-- No datagram begins another, and none says two values.
abbrev pub NoDatagramBeginsAnother : Type 0
NoDatagramBeginsAnother = (v w : DatagramValue) (a b x y : List ℕ) → IsDatagram v a → IsDatagram w b → a ++ x ≡ b ++ y → (a ≡ b) × (v ≡ w)

-- The same of replies.

abbrev pub WholeIsReply : Type 0
WholeIsReply = (total n : ℕ) (v : ReplyValue) (bytes : List ℕ) → AreBytes bytes → reply_verdict total bytes ≡ whole v n
    → (n ≡ total) × (total ≤ length bytes) × IsReply v (take total bytes)

abbrev pub ReplyIsWhole : Type 0
ReplyIsWhole = (v : ReplyValue) (bytes more : List ℕ) → IsReply v bytes → reply_verdict (length bytes) (bytes ++ more) ≡ whole v (length bytes)

abbrev pub ReplyVerdictStays : Type 0
ReplyVerdictStays = (total : ℕ) (bytes more : List ℕ) → (reply_verdict total bytes ≡ short → ⊥) → reply_verdict total (bytes ++ more) ≡ reply_verdict total bytes

abbrev pub NoReplyBeginsAnother : Type 0
NoReplyBeginsAnother = (v w : ReplyValue) (a b x y : List ℕ) → IsReply v a → IsReply w b → a ++ x ≡ b ++ y → (a ≡ b) × (v ≡ w)
