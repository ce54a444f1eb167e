-- A device without I/O settings after N lines of its own.
use Rattle.std.specs.Prelude.{◌≡◌, ◌≤◌, ℕ, [], length}
use Rattle.trial_model.specs.Decisions.{DeviceHistory}
use Rattle.trial_device.specs.Sides.{IsSideSound, Side}

pub record IsPlayed (lines : ℕ) (d : Side) : Type 0 where
  pub history : DeviceHistory
  pub sound : IsSideSound [] history d
  pub few : length history.decisions ≤ lines
  pub plain : d.device.settings ≡ []
