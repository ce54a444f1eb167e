-- What a call that may give a frame says of it.
use Rattle.std.specs.Prelude.{◌≡◌, ℕ, Bool, true, false, List, Option, Some, None}
use Rattle.frame_layout.specs.Items.{IsDownItem}
use Rattle.frame_layout.specs.Values.{order}

-- the frame of a command of the way down
pub record IsOrder (frame : List ℕ) : Type 0 where
  pub body : List ℕ
  pub is : IsDownItem true (order body) frame

-- true with the frame that is given, or false where none is
abbrev pub IsGiven : Option (List ℕ) → Bool → List ℕ → Type 0
IsGiven None given out = given ≡ false
IsGiven (Some frame) given out = (given ≡ true) × (out ≡ frame) × IsOrder frame
