-- What is true of a device's side in the midst of a `fix` line.
use Rattle.std.specs.Prelude.{◌≡◌, ◌≤◌, ◌<◌, ◌+◌, ◌-◌, ◌*◌, ℕ, Bool, true, false, List, length, Option, Some, None}
use Rattle.std.specs.List.{All, Any, Contains}
use Rattle.avl_values.specs.Record.{Record}
use Rattle.flash_ring.specs.Ring.{EachHolds, IsDurable}
use Rattle.medium_model.specs.CallsLeft.{CallsLeft, after, exhausted, unlimited}
use Rattle.record_lists.specs.EachOnce.{IsOnce}
use Rattle.trial_model.specs.Cover.{IsBelow}
use Rattle.trial_model.specs.Decisions.{Decision, LineProgress, records_decided}
use Rattle.trial_model.specs.RecordLists.{first_places}
use Rattle.trial_device.specs.Sides.{AreEvicted, AreHeldRight, IsElsewhere, Side}

-- The lists after these decisions, and what the ring holds while it is up; in any case, what a power loss may leave in it.
pub record AreListsRight (heard : List Record) (decisions : List Decision) (load : ℕ) (d : Side) : Type 0 where
  pub acquired : d.acquired ≡ first_places (records_decided decisions)
  pub some : 1 ≤ d.device.slots
  pub slots : length d.ring.slots ≡ d.device.slots
  pub most : load ≤ d.device.slots
  pub images : EachHolds d.ring (AreHeldRight decisions load (IsElsewhere heard d))
  pub held : d.ring.down ≡ false → AreHeldRight decisions load (IsElsewhere heard d) d.ring.slots
  pub durable : d.ring.down ≡ false → IsDurable d.ring
  pub next : d.ring.down ≡ false → d.ring.next ≤ length decisions
  pub cut_once : IsOnce d.cut
  pub overwritten_once : IsOnce d.overwritten
  pub cut_wherever : All (λ e. IsBelow e.cover (4 * (e.number + 1)) → Contains d.cut e.rec) decisions
  pub cut_only : All (λ r. Any (λ e. IsBelow e.cover e.cost × (e.rec ≡ r)) decisions) d.cut
  pub overwritten : AreEvicted d.device.slots decisions d.overwritten

-- How the medium's calls go within a line: none may fail without a fuse; with one, each store so far made at least 4 calls
-- and all together at most the cost; and a call failed only where the fuse is below the cost.
abbrev pub IsPaced : Option ℕ → ℕ → ℕ → Bool → CallsLeft → Type 0
IsPaced None number cost down left = (down ≡ false) × (left ≡ unlimited)
IsPaced (Some k) number cost false left = (used : ℕ) × (left ≡ after (k - used)) × (used ≤ k) × (4 * number ≤ used) × (used ≤ cost)
IsPaced (Some k) number cost true left = (left ≡ exhausted) × (k < cost)

pub record IsMidway (heard : List Record) (cover : Option ℕ) (m : LineProgress) (d : Side) : Type 0 where
  pub lists : AreListsRight heard m.decisions m.load d
  pub paced : IsPaced cover m.number m.cost d.ring.down d.ring.medium.left
