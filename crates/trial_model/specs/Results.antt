-- The outcome of a trial, as contracts see it.
use Rattle.std.specs.Prelude.{List}
use Rattle.trial_model.specs.declared.outcome.ConnectionOutcome.{ConnectionOutcome}
use Rattle.trial_model.specs.declared.outcome.DeviceOutcome.{DeviceOutcome}

pub record Results : Type 0 where
  -- in the order of the script's `device` lines
  pub devices : List DeviceOutcome
  -- in order of number
  pub connections : List ConnectionOutcome
