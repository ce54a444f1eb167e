-- A device's lists hold acquired records alone, and each record once.
use Rattle.trial_model.specs.declared.outcome.DeviceOutcome.{DeviceOutcome}
use Rattle.trial_model.specs.RecordLists.{AreIn}
use Rattle.record_lists.specs.EachOnce.{IsOnce}

pub record HasOnlyAcquired (d : DeviceOutcome) : Type 0 where
  pub flash : AreIn d.acquired d.flash
  pub archived : AreIn d.acquired d.archived
  pub cut : AreIn d.acquired d.cut
  pub overwritten : AreIn d.acquired d.overwritten
  pub flash_once : IsOnce d.flash
  pub archived_once : IsOnce d.archived
  pub cut_once : IsOnce d.cut
  pub overwritten_once : IsOnce d.overwritten
