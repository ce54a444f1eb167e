-- The outcome of a trial, read off its state. The end of a connection that is half-open yet is in its log.
use Rattle.std.specs.Prelude.{map}
use Rattle.flash_ring.specs.Entries.{held_of}
use Rattle.shelf.specs.Archive.{recs_for}
use Rattle.shelf.specs.Shelf.{ShelfView}
use Rattle.trial_model.specs.declared.outcome.DeviceOutcome.{DeviceOutcome}
use Rattle.trial_model.specs.RecordLists.{first_places}
use Rattle.trial_model.specs.Results.{Results}
use Rattle.trial_device.specs.Sides.{Side}
use Rattle.trial_play.specs.Trials.{TrialState, logs_of}

-- a device's lists, the records on its flash each once, and its records in the archive
abbrev pub device_outcome : ShelfView → Side → DeviceOutcome
device_outcome shelf d = record {
  imei = d.device.imei;
  acquired = d.acquired;
  cut = d.cut;
  overwritten = d.overwritten;
  flash = first_places (held_of d.ring.slots);
  archived = recs_for d.device.imei shelf.list;
}

abbrev pub outcome_of : TrialState → Results
outcome_of t = record { devices = map (device_outcome t.shelf) t.sides; connections = logs_of t.connections }
