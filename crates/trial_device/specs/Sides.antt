-- A device's side of a trial, and what is true of it as a line begins, by what the lines before decided.
use Rattle.std.specs.Prelude.{◌≡◌, ◌⊎◌, ◌≤◌, ℕ, ◌+◌, ◌*◌, List, map, length, Option}
use Rattle.std.specs.List.{All, AllZip, Any, Contains}
use Rattle.acquisition.specs.Watching.{Watching}
use Rattle.avl_values.specs.Record.{Record}
use Rattle.flash_ring.specs.Entries.{held_of}
use Rattle.flash_ring.specs.Held.{Held, IsPart, next_of}
use Rattle.flash_ring.specs.Ring.{IsDurable, RingView}
use Rattle.medium_model.specs.CallsLeft.{unlimited}
use Rattle.record_lists.specs.EachOnce.{IsOnce}
use Rattle.trial_model.specs.Cover.{IsBelow}
use Rattle.trial_model.specs.Decisions.{Decision, DeviceHistory, records_decided}
use Rattle.trial_model.specs.Overwritten.{Eviction, IsEviction, IsRising}
use Rattle.trial_model.specs.RecordLists.{first_places}
use Rattle.trial_model.specs.Script.{Device}

-- What the script says of the device; its ring; what it remembers since power-up; the calls of the fuse that waits; and the
-- records that it acquired, whose storing failed, and that a full ring gave up.
pub record Side : Type 0 where
  pub device : Device
  pub ring : RingView
  pub watching : Watching
  pub fuse : Option ℕ
  pub acquired : List Record
  pub cut : List Record
  pub overwritten : List Record

-- What slots may hold beside the records that are elsewhere: decided records in their order, no more than the load, and each
-- decided record that isn't elsewhere.
pub record AreHeldRight (decisions : List Decision) (load : ℕ) (elsewhere : Record → Type 0) (slots : List (Option Held)) : Type 0 where
  pub decided : IsPart (held_of slots) (records_decided decisions)
  pub few : length (held_of slots) ≤ load
  pub next : next_of slots ≤ length decisions
  pub nothing_lost : All (λ r. Contains (held_of slots) r ⊎ elsewhere r) (records_decided decisions)

-- The record's frame was counted for the device, or the record is listed as overwritten or as cut.
abbrev pub IsElsewhere : List Record → Side → Record → Type 0
IsElsewhere heard d r = Contains heard r ⊎ Contains d.overwritten r ⊎ Contains d.cut r

-- These records were evicted one after the other, each by a decision that found the ring full.
pub record AreEvicted (slots : ℕ) (decisions : List Decision) (records : List Record) : Type 0 where
  pub evictions : List Eviction
  pub each : AllZip (IsEviction slots decisions) records evictions
  pub rising : IsRising (map (λ e. e.evicting) evictions)

-- A device's side as a line begins. Of the other end it knows nothing but which of its records were heard: whose frame's count
-- the device has heard.
pub record IsSideSound (heard : List Record) (h : DeviceHistory) (d : Side) : Type 0 where
  pub acquired : d.acquired ≡ first_places (records_decided h.decisions)
  pub some : 1 ≤ d.device.slots
  pub slots : length d.ring.slots ≡ d.device.slots
  pub most : h.load ≤ d.device.slots
  pub durable : IsDurable d.ring
  pub held : AreHeldRight h.decisions h.load (IsElsewhere heard d) d.ring.slots
  pub idle : d.ring.medium.left ≡ unlimited
  pub next : d.ring.next ≤ length h.decisions
  pub cut_once : IsOnce d.cut
  pub overwritten_once : IsOnce d.overwritten
  pub cut_wherever : All (λ e. IsBelow e.cover (4 * (e.number + 1)) → Contains d.cut e.rec) h.decisions
  pub cut_only : All (λ r. Any (λ e. IsBelow e.cover e.cost × (e.rec ≡ r)) h.decisions) d.cut
  pub overwritten : AreEvicted d.device.slots h.decisions d.overwritten
  pub watching : d.watching ≡ h.watching
  pub fuse : d.fuse ≡ h.fuse
