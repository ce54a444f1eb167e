-- The laws of the items of a connection.
use Rattle.std.specs.Prelude.{◌≡◌, ℕ, ◌<◌, ◌≤◌, Bool, List, [], ◌++◌, length, take}
use Rattle.layout.specs.Bytes.{AreBytes}
use Rattle.layout.specs.Rows.{whole, short}
use Rattle.frame_layout.specs.DownRows.{down_verdict}
use Rattle.frame_layout.specs.Items.{IsDownItem, IsUpItem}
use Rattle.frame_layout.specs.Readings.{IsSaidDown, IsSaidUp, comes_later_down, comes_later_up}
use Rattle.frame_layout.specs.UpRows.{up_verdict}
use Rattle.frame_layout.specs.Values.{DownValue, UpValue}

-- A whole verdict says that the first bytes are the item.
abbrev pub WholeIsUpItem : Type 0
WholeIsUpItem = (after_login : Bool) (v : UpValue) (n : ℕ) (bytes : List ℕ) → AreBytes bytes → up_verdict after_login bytes ≡ whole v n
    → (n ≤ length bytes) × IsUpItem after_login v (take n bytes)

-- And an item's verdict is whole, whatever follows.
abbrev pub UpItemIsWhole : Type 0
UpItemIsWhole = (after_login : Bool) (v : UpValue) (bytes more : List ℕ) → IsUpItem after_login v bytes → up_verdict after_login (bytes ++ more) ≡ whole v (length bytes)

-- A verdict that has come stays.
abbrev pub UpVerdictStays : Type 0
UpVerdictStays = (after_login : Bool) (bytes more : List ℕ) → (up_verdict after_login bytes ≡ short → ⊥) → up_verdict after_login (bytes ++ more) ≡ up_verdict after_login bytes

-- No item begins another, and none says two values.
abbrev pub NoUpItemBeginsAnother : Type 0
NoUpItemBeginsAnother = (after_login : Bool) (v w : UpValue) (a b x y : List ℕ) → IsUpItem after_login v a → IsUpItem after_login w b → a ++ x ≡ b ++ y → (a ≡ b) × (v ≡ w)

-- The same down.

abbrev pub WholeIsDownItem : Type 0
WholeIsDownItem = (after_answer : Bool) (v : DownValue) (n : ℕ) (bytes : List ℕ) → AreBytes bytes → down_verdict after_answer bytes ≡ whole v n
    → (n ≤ length bytes) × IsDownItem after_answer v (take n bytes)

abbrev pub DownItemIsWhole : Type 0
DownItemIsWhole = (after_answer : Bool) (v : DownValue) (bytes more : List ℕ) → IsDownItem after_answer v bytes → down_verdict after_answer (bytes ++ more) ≡ whole v (length bytes)

abbrev pub DownVerdictStays : Type 0
DownVerdictStays = (after_answer : Bool) (bytes more : List ℕ) → (down_verdict after_answer bytes ≡ short → ⊥) → down_verdict after_answer (bytes ++ more) ≡ down_verdict after_answer bytes

abbrev pub NoDownItemBeginsAnother : Type 0
NoDownItemBeginsAnother = (after_answer : Bool) (v w : DownValue) (a b x y : List ℕ) → IsDownItem after_answer v a → IsDownItem after_answer w b → a ++ x ≡ b ++ y → (a ≡ b) × (v ≡ w)

-- An item comes only at its place.

abbrev pub UpItemHasPlace : Type 0
UpItemHasPlace = (after_login : Bool) (v : UpValue) (n : ℕ) (bytes : List ℕ) → up_verdict after_login bytes ≡ whole v n → after_login ≡ comes_later_up v

abbrev pub DownItemHasPlace : Type 0
DownItemHasPlace = (after_answer : Bool) (v : DownValue) (n : ℕ) (bytes : List ℕ) → down_verdict after_answer bytes ≡ whole v n → after_answer ≡ comes_later_down v

-- A stream that begins has no verdict yet, and an item that is unfinished has fewer bytes than the longest one.

abbrev pub UpBegins : Type 0
UpBegins = (after_login : Bool) → up_verdict after_login [] ≡ short

abbrev pub DownBegins : Type 0
DownBegins = (after_answer : Bool) → down_verdict after_answer [] ≡ short

abbrev pub ShortUpIsFew : Type 0
ShortUpIsFew = (after_login : Bool) (bytes : List ℕ) → up_verdict after_login bytes ≡ short → length bytes < 65547

abbrev pub ShortDownIsFew : Type 0
ShortDownIsFew = (after_answer : Bool) (bytes : List ℕ) → down_verdict after_answer bytes ≡ short → length bytes < 1280

-- What a whole verdict says is within its bounds.

abbrev pub UpItemIsSaid : Type 0
UpItemIsSaid = (after_login : Bool) (v : UpValue) (n : ℕ) (bytes : List ℕ) → AreBytes bytes → up_verdict after_login bytes ≡ whole v n → IsSaidUp v

abbrev pub DownItemIsSaid : Type 0
DownItemIsSaid = (after_answer : Bool) (v : DownValue) (n : ℕ) (bytes : List ℕ) → AreBytes bytes → down_verdict after_answer bytes ≡ whole v n → IsSaidDown v
