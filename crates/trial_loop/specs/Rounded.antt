-- What a `round` or `drain` line does to its device's side and to the archive.
use Rattle.std.specs.Prelude.{Bool, List}
use Rattle.avl_values.specs.Record.{Record}
use Rattle.flash_ring.specs.Entries.{held_of}
use Rattle.session_core.specs.declared.known.Known.{Known}
use Rattle.session_core.specs.Knowing.{knows}
use Rattle.shelf.specs.Shelf.{ShelfView}
use Rattle.trial_model.specs.declared.outcome.ConnectionOutcome.{ConnectionOutcome}
use Rattle.trial_model.specs.RecordLists.{AreIn}
use Rattle.trial_model.specs.Script.{Opening}
use Rattle.trial_device.specs.Sides.{Side}
use Rattle.trial_play.specs.Plays.{RoundsBy}
use Rattle.trial_wire.specs.Connections.{IsRounded}

-- its connection's log, by the records that were decided before it, and its device's side
pub record RoundsBoth (known : Known) (o : Opening) (log : ConnectionOutcome) (going : Bool) (s t : ShelfView) (old new : Side) : Type 0 where
  pub failed : Bool
  pub rounded : (earlier : List Record) → AreIn earlier (held_of old.ring.slots) → IsRounded (knows known o.imei) failed old.fuse earlier o log going s t
  pub side : RoundsBy o.drains log old new
