-- Where in a datagram the next field is.
use Rattle.std.specs.Prelude.{◌≡◌, ℕ, suc, ◌+◌, ◌==◌, List, Some}
use Rattle.std.proofs.Common.{refl, ap, ◌∙◌}
use Rattle.layout.specs.Next.{width_of}
use Rattle.layout.specs.Rows.{Rows}
use Rattle.field_machine.specs.Places.{Leaves}
use Rattle.field_machine.specs.declared.left.Left.{Left}
use Rattle.field_machine.specs.declared.left.Left.TheVariants as left
use Rattle.record_layout.specs.declared.head.PacketHead.{PacketHead}
use Rattle.record_codecs.specs.BodyCursor as packet
use Rattle.record_codecs.specs.CursorLaws as packet_laws
use Rattle.frame_layout.specs.Logins.{digit_rows, login_rows}
use Rattle.datagrams.specs.BodyRows.{said_done, said_rows, said_width}
use Rattle.datagrams.specs.DatagramRows.{after_numbers, any_number, body_rows, length_row, numbers_rows}
use Rattle.datagrams.specs.Values.{DatagramValue}
use Rattle.datagrams.specs.declared.place.DatagramPlace.{DatagramPlace}
use Rattle.datagrams.specs.declared.place.DatagramPlace.TheVariants as at

abbrev pub left_of : DatagramPlace → Left PacketHead
left_of (at.Length total) = left.Field 2
left_of at.Packet = left.Field 2
left_of at.Unused = left.Field 1
left_of at.AvlPacket = left.Field 1
left_of at.ImeiLength = left.Field 2
left_of (at.Digit behind) = left.Field 1
left_of (at.Body place) = packet.left_of place

-- The rows that are left, whatever the fields before them said.
abbrev pub StandsAt : DatagramPlace → Rows DatagramValue → Type 0
StandsAt (at.Length total) here = here ≡ length_row (λ n. n + 2 == total) (numbers_rows after_numbers)
StandsAt at.Packet here = here ≡ numbers_rows after_numbers
StandsAt at.Unused here = (p : ℕ) × (here ≡ any_number 1 (λ u. any_number 1 (λ a. after_numbers p u a)))
StandsAt at.AvlPacket here = (p : ℕ) × (u : ℕ) × (here ≡ any_number 1 (λ a. after_numbers p u a))
StandsAt at.ImeiLength here = (says : ℕ → List ℕ → DatagramValue) × (here ≡ login_rows (λ imei. body_rows (says imei)))
StandsAt (at.Digit behind) here =
    (says : ℕ → List ℕ → DatagramValue) × (n : ℕ) × (here ≡ digit_rows (suc behind) n (λ imei. body_rows (says imei)))
StandsAt (at.Body place) here =
    (says : List ℕ → DatagramValue) × (seen : List ℕ) × (here ≡ said_rows says seen (packet.rows_at place))

-- the place holds nothing of what the datagram says
abbrev pub SaysNothing : PacketHead → DatagramValue → Type 0
SaysNothing head v = Unit {0}

login_width : (rest : ℕ → Rows DatagramValue) → width_of (login_rows rest) ≡ Some 2
unfolding login_rows
login_width rest = refl

digit_width : (behind n : ℕ) (rest : ℕ → Rows DatagramValue) → width_of (digit_rows (suc behind) n rest) ≡ Some 1
unfolding digit_rows
digit_width behind n rest = refl

body_leaves : (says : List ℕ → DatagramValue) (seen : List ℕ) (l : Left PacketHead) (rows : Rows PacketHead) (here : Rows DatagramValue)
    → here ≡ said_rows says seen rows → Leaves packet.SaysHead l rows → Leaves SaysNothing l here
body_leaves says seen (left.Field w) rows here is width = ap width_of is ∙ said_width says seen rows w width
body_leaves says seen (left.Nothing head) rows here is (v, end, s) =
    (says seen, is ∙ ap (said_rows says seen) end ∙ said_done says seen v, tt)

pub datagram_leaves : (place : DatagramPlace) (here : Rows DatagramValue) → StandsAt place here → Leaves SaysNothing (left_of place) here
datagram_leaves (at.Length total) here is = ap width_of is
datagram_leaves at.Packet here is = ap width_of is
datagram_leaves at.Unused here (p, is) = ap width_of is
datagram_leaves at.AvlPacket here (p, u, is) = ap width_of is
datagram_leaves at.ImeiLength here (says, is) = ap width_of is ∙ login_width (λ imei. body_rows (says imei))
datagram_leaves (at.Digit behind) here (says, n, is) = ap width_of is ∙ digit_width behind n (λ imei. body_rows (says imei))
datagram_leaves (at.Body place) here (says, seen, is) =
    body_leaves says seen (packet.left_of place) (packet.rows_at place) here is (packet_laws.body_leaves place (packet.rows_at place) refl)
