-- Where a device's side is.
use Rattle.std.specs.Prelude.{◌≡◌, ◌==◌, ◌<◌, ℕ, true, false, List, length, slice_get, Some}
use Rattle.trial_device.specs.Sides.{Side}

-- the side of this IMEI is here
pub record IsPlaceOf (imei : ℕ) (sides : List Side) (place : ℕ) : Type 0 where
  pub within : place < length sides
  pub side : Side
  pub here : slice_get sides place ≡ Some side
  pub has : (side.device.imei == imei) ≡ true

-- none of them has this IMEI
abbrev pub HasNone : ℕ → List Side → Type 0
HasNone imei sides = (n : ℕ) (d : Side) → slice_get sides n ≡ Some d → (d.device.imei == imei) ≡ false
