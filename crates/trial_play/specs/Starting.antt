-- A trial before its first line.
use Rattle.std.specs.Prelude.{◌≡◌, List, [], Some, None}
use Rattle.std.specs.List.{AllZip}
use Rattle.archive_journal.specs.Entries.{entries_of}
use Rattle.archive_journal.specs.Journal.{KeepsEntries}
use Rattle.medium_model.specs.CallsLeft.{unlimited}
use Rattle.medium_model.specs.Content.{settled}
use Rattle.medium_model.specs.PowerLoss.{EveryImage}
use Rattle.shelf.specs.Archive.{list_of}
use Rattle.shelf.specs.Shelf.{IsDurable, ShelfView}
use Rattle.trial_model.specs.Script.{Device}
use Rattle.trial_device.specs.Starting.{StartsSide}
use Rattle.trial_play.specs.Trials.{TrialState}

-- an archive that was opened over a medium with nothing on it
pub record IsFreshShelf (v : ShelfView) : Type 0 where
  pub durable : IsDurable v
  pub list : v.list ≡ list_of (entries_of [])
  pub images : EveryImage v.medium.content (KeepsEntries (Some (settled [])))
  pub left : v.medium.left ≡ unlimited

-- formatted flashes, an archive without entries, no connection, and no fuse
pub record StartsTrial (devices : List Device) (t : TrialState) : Type 0 where
  pub sides : AllZip StartsSide devices t.sides
  pub shelf : IsFreshShelf t.shelf
  pub is : t ≡ record { sides = t.sides; connections = []; shelf = t.shelf; fuse = None }
