-- The rows of datagrams and replies, and the verdicts on them (Teltonika, Data Sending Protocols, "Codec 8 protocol sending over
-- UDP"; the faults, and that the length is that of the bytes that came, is this project's own). Places are counted from the
-- datagram's or the reply's first byte.
use Rattle.std.specs.Prelude.{ℕ, ◌+◌, ◌==◌, ◌&&◌, nat_lt, Bool, List, [], None, if◌then◌else◌}
use Rattle.avl_values.specs.declared.fault.FaultKind.TheVariants.{DatagramLength}
use Rattle.layout.specs.Rows.{Rows, done, refuse, Verdict, judge, body}
use Rattle.layout.specs.Fields.{fault_unless, number_row}
use Rattle.layout.specs.Nested.{with_bytes}
use Rattle.layout.specs.MappedRows.{map_value}
use Rattle.record_layout.specs.PacketRows.{packet_rows}
use Rattle.frame_layout.specs.Logins.{login_rows}
use Rattle.datagrams.specs.Values.{DatagramValue, ReplyValue}

-- a number that any bytes spell
abbrev pub any_number : {V : Type 0} → ℕ → (ℕ → Rows V) → Rows V
any_number width rest = number_row width (λ _. None) rest

-- the packet id, the byte that isn't used and the AVL packet id
abbrev pub numbers_rows : {V : Type 0} → (ℕ → ℕ → ℕ → Rows V) → Rows V
numbers_rows rest = any_number 2 (λ packet. any_number 1 (λ unused. any_number 1 (λ avl_packet. rest packet unused avl_packet)))

-- the length in two bytes, which is right by this test
abbrev pub length_row : {V : Type 0} → (ℕ → Bool) → Rows V → Rows V
length_row right rest = number_row 2 (λ n. fault_unless (right n) DatagramLength) (λ _. rest)

-- the same; fewer than two bytes have no length
abbrev pub length_rows : {V : Type 0} → ℕ → (ℕ → Bool) → Rows V → Rows V
length_rows total right rest = if nat_lt total 2 then refuse DatagramLength else length_row right rest

-- a data body, and then the datagram says its bytes
abbrev pub body_rows : (List ℕ → DatagramValue) → Rows DatagramValue
body_rows says = map_value (λ b. says b.1) (with_bytes [] packet_rows)

-- after the numbers come the IMEI as a login holds it, and the data body
abbrev pub after_numbers : ℕ → ℕ → ℕ → Rows DatagramValue
after_numbers packet unused avl_packet =
    login_rows (λ imei. body_rows (λ body. record { packet = packet; unused = unused; avl_packet = avl_packet; imei = imei; body = body }))

-- a datagram of N bytes: the length of what follows, the three numbers, the IMEI and the data body
unfoldable pub datagram_rows : ℕ → Rows DatagramValue
datagram_rows total = length_rows total (λ n. n + 2 == total) (numbers_rows after_numbers)

-- a reply of N bytes, which are seven: the length 5, the three numbers and the count
unfoldable pub reply_rows : ℕ → Rows ReplyValue
reply_rows total =
    length_rows total (λ n. (n == 5) && (total == 7))
    (numbers_rows (λ packet unused avl_packet. any_number 1 (λ count. done (record { packet = packet; unused = unused; avl_packet = avl_packet; count = count }))))

-- the verdict on the first bytes of a datagram of N bytes
unfoldable pub datagram_verdict : ℕ → List ℕ → Verdict DatagramValue
datagram_verdict total bytes = judge (body total (datagram_rows total)) 0 bytes

-- the verdict on the first bytes of a reply of N bytes
unfoldable pub reply_verdict : ℕ → List ℕ → Verdict ReplyValue
reply_verdict total bytes = judge (body total (reply_rows total)) 0 bytes
