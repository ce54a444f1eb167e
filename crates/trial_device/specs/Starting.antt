-- A device's side as a trial begins.
use Rattle.std.specs.Prelude.{◌≡◌, ◌≤◌, ℕ, [], length, None}
use Rattle.acquisition.specs.Watching.{powered_up}
use Rattle.flash_ring.specs.Entries.{held_of}
use Rattle.flash_ring.specs.Ring.{IsDurable, RingView}
use Rattle.medium_model.specs.CallsLeft.{unlimited}
use Rattle.trial_model.specs.Script.{Device}
use Rattle.trial_device.specs.Sides.{Side}

-- a ring of N slots that holds nothing
pub record IsFormatted (slots : ℕ) (v : RingView) : Type 0 where
  pub size : length v.slots ≡ slots
  pub durable : IsDurable v
  pub empty : held_of v.slots ≡ []
  pub next : v.next ≡ 0
  pub left : v.medium.left ≡ unlimited

-- nothing is held, remembered or listed, and no fuse waits
pub record StartsSide (device : Device) (d : Side) : Type 0 where
  pub some : 1 ≤ device.slots
  pub ring : IsFormatted device.slots d.ring
  pub is : d ≡ record { device = device; ring = d.ring; watching = powered_up; fuse = None; acquired = []; cut = []; overwritten = [] }
