-- How far a journey goes.
use Rattle.std.specs.Prelude.{◌≡◌, ℕ, ◌+◌, ◌*◌, ◌<◌, ◌≤◌, length, slice_index_or}
use Rattle.made_script.specs.Made.{Stand, parked}

-- N turns were taken.
pub record IsOn (devices turns : ℕ) (stand : Stand) : Type 0 where
  pub time : stand.time ≡ 1560000000000 + 1000 * turns
  pub rounds : stand.rounds ≤ turns
  pub vehicles : length stand.vehicles ≡ devices
  pub odometers : (place : ℕ) → (slice_index_or stand.vehicles place parked).odometer ≤ 39 * turns
  pub angles : (place : ℕ) → (slice_index_or stand.vehicles place parked).angle < 360

-- One more turn can be taken.
pub record HasRoom (stand : Stand) : Type 0 where
  pub time : stand.time ≤ 1560100000000
  pub rounds : stand.rounds ≤ 100000
  pub odometers : (place : ℕ) → (slice_index_or stand.vehicles place parked).odometer ≤ 3900000
  pub angles : (place : ℕ) → (slice_index_or stand.vehicles place parked).angle < 360
