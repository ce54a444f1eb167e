-- The first field of what is kept: there is one device outcome for each `device` line, in order, and its list
-- `acquired` has the records that the script decides, in order, each at its first place only.
use Rattle.std.specs.Prelude.{◌≡◌}
use Rattle.trial_model.specs.declared.outcome.DeviceOutcome.{DeviceOutcome}
use Rattle.trial_model.specs.Decisions.{DeviceHistory, records_decided}
use Rattle.trial_model.specs.RecordLists.{first_places}
use Rattle.trial_model.specs.Script.{Device}

pub record IsAcquired (device : Device) (history : DeviceHistory) (d : DeviceOutcome) : Type 0 where
  pub imei : d.imei ≡ device.imei
  pub acquired : d.acquired ≡ first_places (records_decided history.decisions)
