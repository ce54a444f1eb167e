-- What storing a record does to a device's side, and what a `fix` line does.
use Rattle.std.specs.Prelude.{◌≡◌, true, false, List, [], ◌∷◌, length, IsSome, if◌then◌else◌}
use Rattle.acquisition.specs.declared.fix.Fix.{Fix}
use Rattle.acquisition.specs.Deciding.{decided}
use Rattle.avl_values.specs.Record.{Record}
use Rattle.flash_ring.specs.Entries.{held_of}
use Rattle.flash_ring.specs.Held.{is_full}
use Rattle.flash_ring.specs.Ring.{RingView}
use Rattle.medium_model.specs.PowerLoss.{EveryImage, WasImage}
use Rattle.tracker_session.specs.Keeping.{Keeps}
use Rattle.trial_model.specs.RecordLists.{add_once}
use Rattle.trial_model.specs.Script.{settings_of}
use Rattle.trial_device.specs.SideLines.{EndsSide, armed_ring}
use Rattle.trial_device.specs.Sides.{Side}

-- a list with the first of these records, unless it has it
abbrev pub with_first : List Record → List Record → List Record
with_first [] listed = listed
with_first (r ∷ rs) listed = add_once listed r

-- the overwritten records, with the oldest of a full ring
abbrev pub with_oldest : RingView → List Record → List Record
with_oldest v listed = if is_full v.slots then with_first (held_of v.slots) listed else listed

-- the record is stored
pub record IsStored (r : Record) (old new : Side) : Type 0 where
  pub rest : new ≡ record old { ring = new.ring; acquired = add_once old.acquired r; overwritten = with_oldest old.ring old.overwritten }
  pub up : old.ring.down ≡ false
  pub keeps : Keeps r false old.ring new.ring

-- a call of its store failed
pub record IsCutNow (r : Record) (old new : Side) : Type 0 where
  pub rest : new ≡ record old { ring = new.ring; acquired = add_once old.acquired r; overwritten = with_oldest old.ring old.overwritten; cut = add_once old.cut r }
  pub up : old.ring.down ≡ false
  pub keeps : Keeps r true old.ring new.ring

-- The ring was down, and couldn't be opened again: no image is added that the power loss may leave.
pub record IsCutLater (r : Record) (old new : Side) : Type 0 where
  pub rest : new ≡ record old { ring = new.ring; acquired = add_once old.acquired r; cut = add_once old.cut r }
  pub was_down : old.ring.down ≡ true
  pub size : length new.ring.slots ≡ length old.ring.slots
  pub down : new.ring.down ≡ true
  pub told : IsSome old.ring.medium.content
  pub tells : IsSome new.ring.medium.content
  pub images : EveryImage new.ring.medium.content (WasImage old.ring.medium.content)
  pub left : new.ring.medium.left ≡ old.ring.medium.left

-- a record that was acquired is stored, or listed as cut
pub data Stores (r : Record) (old new : Side) : Type 0 where
  stored : IsStored r old new → Stores r old new
  cut_now : IsCutNow r old new → Stores r old new
  cut_later : IsCutLater r old new → Stores r old new

-- these records, one after the other
abbrev pub StoresAll : List Record → Side → Side → Type 0
StoresAll [] d e = e ≡ d
StoresAll (r ∷ rs) d e = (x : Side) × Stores r d x × StoresAll rs x e

-- a side as its decided records are stored: its medium is armed where a fuse waits, and it remembers the fix
abbrev pub begun : Fix → Side → Side
begun fix d = record d { ring = armed_ring d.fuse d.ring; watching = (decided (settings_of d.device) d.watching fix).watching }

-- A `fix` line: the records that it decides are stored one after the other.
pub record FixesSide (fix : Fix) (d e : Side) : Type 0 where
  pub kept : Side
  pub stores : StoresAll (decided (settings_of d.device) d.watching fix).records (begun fix d) kept
  pub ends : EndsSide d.fuse kept e
