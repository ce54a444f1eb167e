-- At which place of a stream an item stands, and what it may say.
use Rattle.std.proofs.Common.{◌≡◌, ℕ, Bool, true, false, inl, inr, List, take, refl, sym, ap, ◌∙◌}
use Rattle.layout.proofs.RowLaws.{filled}
use Rattle.frame_layout.specs.DownRows.{down_rows}
use Rattle.frame_layout.specs.Items.{IsDownItem, IsUpItem}
use Rattle.frame_layout.specs.Laws.{DownItemHasPlace, DownItemIsSaid, UpItemHasPlace, UpItemIsSaid}
use Rattle.frame_layout.specs.Readings.{IsSaidDown, IsSaidUp, comes_later_down, comes_later_up}
use Rattle.frame_layout.specs.UpRows.{up_rows}
use Rattle.frame_layout.specs.Values.{DownValue, UpValue, answer, count, frame_value, login, order, packet, response}
use Rattle.frame_layout.specs.declared.body_kind.BodyKind.{BodyKind}
use Rattle.frame_layout.specs.declared.body_kind.BodyKind.TheVariants.{Packet, Command}
use Rattle.frame_layout.proofs.DownLaws.{whole_down}
use Rattle.frame_layout.proofs.Places.{SaysAt, SaysDown, says_at, says_down}
use Rattle.frame_layout.proofs.UpLaws.{whole_up}

-- The place.

frame_later : (kind : BodyKind) (body : List ℕ) → comes_later_up (frame_value kind body) ≡ true
frame_later (Packet head) body = refl
frame_later Command body = refl

place_up : (after_login : Bool) (v : UpValue) (bytes : List ℕ) → SaysAt after_login v bytes → after_login ≡ comes_later_up v
place_up false v bytes s = sym (ap comes_later_up s.value)
place_up true v bytes s = sym (ap comes_later_up s.value ∙ frame_later s.kind s.body)

pub up_place : UpItemHasPlace
up_place after_login v n bytes e = let f = filled (up_rows after_login) 0 n v bytes e in place_up after_login v (take f.0 bytes) (says_at after_login v (take f.0 bytes) f.3)

place_down : (after_answer : Bool) (v : DownValue) (bytes : List ℕ) → SaysDown after_answer v bytes → after_answer ≡ comes_later_down v
place_down false v bytes s = sym (ap comes_later_down s.value)
place_down true v bytes (inl s) = sym (ap comes_later_down s.value)
place_down true v bytes (inr s) = sym (ap comes_later_down s.value)

pub down_place : DownItemHasPlace
down_place after_answer v n bytes e = let f = filled (down_rows after_answer) 0 n v bytes e in place_down after_answer v (take f.0 bytes) (says_down after_answer v (take f.0 bytes) f.3)

-- What it says.

says_up : (after_login : Bool) (v : UpValue) (bytes : List ℕ) → IsUpItem after_login v bytes → IsSaidUp v
says_up false (login imei) bytes is = is.digits
says_up false (packet head body) bytes is = absurd is
says_up false (response body) bytes is = absurd is
says_up true (login imei) bytes is = absurd is
says_up true (packet head body) bytes is = record { is = is.of_body; fits = is.fits }
says_up true (response body) bytes is = record { value = is.of_body.0; is = is.of_body.1; fits = is.fits }

pub up_said : UpItemIsSaid
up_said after_login v n bytes p e = says_up after_login v (take n bytes) (whole_up after_login v n bytes p e).1

says_down_item : (after_answer : Bool) (v : DownValue) (bytes : List ℕ) → IsDownItem after_answer v bytes → IsSaidDown v
says_down_item false (answer n) bytes is = is.byte
says_down_item false (count n) bytes is = absurd is
says_down_item false (order body) bytes is = absurd is
says_down_item true (answer n) bytes is = absurd is
says_down_item true (count n) bytes is = (is.some, is.fits)
says_down_item true (order body) bytes is = record { value = is.of_body.0; is = is.of_body.1; fits = is.fits }

pub down_said : DownItemIsSaid
down_said after_answer v n bytes p e = says_down_item after_answer v (take n bytes) (whole_down after_answer v n bytes p e).1
