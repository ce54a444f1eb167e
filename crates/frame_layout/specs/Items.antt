-- The items of a TCP connection as whole lists of bytes (Teltonika, Data Sending Protocols, "Codec 8 protocol sending over TCP"
-- and Codecs 12 to 15; the limits of lengths are this project's own).
use Rattle.std.specs.Prelude.{◌≡◌, ℕ, ◌<◌, ◌≤◌, ◌^◌, Bool, true, false, List, [], ◌∷◌, ◌++◌, length}
use Rattle.std.specs.Int.{to_be_bytes, w16, w32}
use Rattle.avl_values.specs.Imei.{imei_text}
use Rattle.crc_field.specs.Crc.{crc_of}
use Rattle.layout.specs.Bytes.{AreBytes}
use Rattle.record_layout.specs.Body.{IsBody}
use Rattle.command_layout.specs.declared.way.Way.{Way}
use Rattle.command_layout.specs.declared.way.Way.TheVariants.{Up, Down}
use Rattle.command_layout.specs.Spelling.{IsCommand}
use Rattle.command_layout.specs.Values.{CommandValue}
use Rattle.frame_layout.specs.FrameBodies.{longest_body}
use Rattle.frame_layout.specs.Values.{UpValue, login, packet, response, DownValue, answer, count, order}
use Rattle.frame_layout.specs.declared.body_kind.BodyKind.{BodyKind}
use Rattle.frame_layout.specs.declared.body_kind.BodyKind.TheVariants.{Packet, Command}

-- the length 15 in two bytes, and the 15 digits
abbrev pub login_of : ℕ → List ℕ
login_of imei = 0 ∷ 15 ∷ imei_text imei

-- four zero bytes, the body's length, the body, and its checksum in the low two of four bytes
abbrev pub frame_of : List ℕ → List ℕ
frame_of body = 0 ∷ 0 ∷ 0 ∷ 0 ∷ (to_be_bytes w32 (length body) ++ (body ++ 0 ∷ 0 ∷ to_be_bytes w16 (crc_of body)))

-- a number of records in four bytes
abbrev pub count_bytes : ℕ → List ℕ
count_bytes n = to_be_bytes w32 n

-- these bytes are a body that may pass this way: a data body up, or a command of that way
abbrev pub IsFrameBody : Way → BodyKind → List ℕ → Type 0
IsFrameBody Up (Packet head) body = IsBody head body
IsFrameBody Down (Packet head) body = ⊥
IsFrameBody Up Command body = (value : CommandValue) × IsCommand Up value body
IsFrameBody Down Command body = (value : CommandValue) × IsCommand Down value body

-- these bytes are the login of this IMEI
pub record IsLogin (imei : ℕ) (bytes : List ℕ) : Type 0 where
  pub is : bytes ≡ login_of imei
  pub digits : imei < 10 ^ 15

-- these bytes are the frame of this body, which may pass this way
pub record IsFrame (way : Way) (kind : BodyKind) (body bytes : List ℕ) : Type 0 where
  pub is : bytes ≡ frame_of body
  pub of_body : IsFrameBody way kind body
  pub fits : length body ≤ longest_body way
  pub are_bytes : AreBytes body

-- these bytes are the login's answer
pub record IsAnswer (n : ℕ) (bytes : List ℕ) : Type 0 where
  pub is : bytes ≡ n ∷ []
  pub byte : n < 256

-- these bytes are a count of n records, which isn't 0
pub record IsCount (n : ℕ) (bytes : List ℕ) : Type 0 where
  pub is : bytes ≡ count_bytes n
  pub some : 0 < n
  pub fits : n < 2 ^ 32

-- The items up: a login comes only at the first place, and frames only after it.
abbrev pub IsUpItem : Bool → UpValue → List ℕ → Type 0
IsUpItem false (login imei) bytes = IsLogin imei bytes
IsUpItem false (packet head body) bytes = ⊥
IsUpItem false (response body) bytes = ⊥
IsUpItem true (login imei) bytes = ⊥
IsUpItem true (packet head body) bytes = IsFrame Up (Packet head) body bytes
IsUpItem true (response body) bytes = IsFrame Up Command body bytes

-- The items down: the answer comes only at the first place, and counts and frames only after it.
abbrev pub IsDownItem : Bool → DownValue → List ℕ → Type 0
IsDownItem false (answer n) bytes = IsAnswer n bytes
IsDownItem false (count n) bytes = ⊥
IsDownItem false (order body) bytes = ⊥
IsDownItem true (answer n) bytes = ⊥
IsDownItem true (count n) bytes = IsCount n bytes
IsDownItem true (order body) bytes = IsFrame Down Command body bytes
