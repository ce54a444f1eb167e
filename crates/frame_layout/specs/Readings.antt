-- The two streams of a connection, read: the items of any bytes and their rest, and what passes in them (this project's own).
use Rattle.std.specs.Prelude.{ℕ, ◌<◌, ◌≤◌, ◌^◌, Bool, true, false, List, [], ◌∷◌, length}
use Rattle.std.specs.List.{flat_map}
use Rattle.record_layout.specs.declared.head.PacketHead.{PacketHead}
use Rattle.record_layout.specs.Body.{IsBody}
use Rattle.command_layout.specs.declared.way.Way.{Way}
use Rattle.command_layout.specs.declared.way.Way.TheVariants.{Up, Down}
use Rattle.command_layout.specs.Spelling.{IsCommand}
use Rattle.command_layout.specs.Values.{CommandValue}
use Rattle.item_streams.specs.Streams.{Item, Reading, reading_of}
use Rattle.frame_layout.specs.DownRows.{down_rows}
use Rattle.frame_layout.specs.FrameBodies.{longest_body}
use Rattle.frame_layout.specs.UpRows.{up_rows}
use Rattle.frame_layout.specs.Values.{UpValue, login, packet, response, DownValue, answer, count, order}

-- the items of a stream up, from before the login or from after it, and its rest
abbrev pub up_reading : Bool → List ℕ → Reading UpValue
up_reading after_login bytes = reading_of (up_rows after_login) (up_rows true) 0 bytes

-- the items of a stream down, from before the login's answer or from after it, and its rest
abbrev pub down_reading : Bool → List ℕ → Reading DownValue
down_reading after_answer bytes = reading_of (down_rows after_answer) (down_rows true) 0 bytes

-- What passes in some items, in order.

-- the body of a data frame
abbrev pub packet_in : UpValue → List (List ℕ)
packet_in (login imei) = []
packet_in (packet head body) = body ∷ []
packet_in (response body) = []

-- the body of a response
abbrev pub response_in : UpValue → List (List ℕ)
response_in (login imei) = []
response_in (packet head body) = []
response_in (response body) = body ∷ []

-- a number of records
abbrev pub count_in : DownValue → List ℕ
count_in (answer n) = []
count_in (count n) = n ∷ []
count_in (order body) = []

-- the body of a command
abbrev pub order_in : DownValue → List (List ℕ)
order_in (answer n) = []
order_in (count n) = []
order_in (order body) = body ∷ []

-- the bodies of the data frames
abbrev pub packets_of : List (Item UpValue) → List (List ℕ)
packets_of items = flat_map (λ item. packet_in item.value) items

-- the bodies of the responses
abbrev pub responses_of : List (Item UpValue) → List (List ℕ)
responses_of items = flat_map (λ item. response_in item.value) items

-- the counts that were read
abbrev pub counts_read : List (Item DownValue) → List ℕ
counts_read items = flat_map (λ item. count_in item.value) items

-- the bodies of the commands
abbrev pub orders_of : List (Item DownValue) → List (List ℕ)
orders_of items = flat_map (λ item. order_in item.value) items

-- Whether an item comes after the first place: a login and its answer come only there, and all else only later.

abbrev pub comes_later_up : UpValue → Bool
comes_later_up (login imei) = false
comes_later_up (packet head body) = true
comes_later_up (response body) = true

abbrev pub comes_later_down : DownValue → Bool
comes_later_down (answer n) = false
comes_later_down (count n) = true
comes_later_down (order body) = true

-- What an item says is within its bounds.

-- a data body that says this first, and isn't longer than a frame allows
pub record IsFramedPacket (head : PacketHead) (body : List ℕ) : Type 0 where
  pub is : IsBody head body
  pub fits : length body ≤ 65535

-- the body of a command of this way, and not longer than a frame of this way allows
pub record IsFramedCommand (way : Way) (body : List ℕ) : Type 0 where
  pub value : CommandValue
  pub is : IsCommand way value body
  pub fits : length body ≤ longest_body way

abbrev pub IsSaidUp : UpValue → Type 0
IsSaidUp (login imei) = imei < 10 ^ 15
IsSaidUp (packet head body) = IsFramedPacket head body
IsSaidUp (response body) = IsFramedCommand Up body

abbrev pub IsSaidDown : DownValue → Type 0
IsSaidDown (answer n) = n < 256
IsSaidDown (count n) = (0 < n) × (n < 2 ^ 32)
IsSaidDown (order body) = IsFramedCommand Down body
