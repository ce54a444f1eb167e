-- What is archived was delivered in a frame of its own device; and what a device has neither on flash nor listed as
-- overwritten or cut is archived, and is in a frame whose count was heard.
use Rattle.std.specs.Prelude.{◌≡◌, ◌⊎◌, List}
use Rattle.std.specs.List.{All, Any, Contains}
use Rattle.trial_model.specs.declared.outcome.ConnectionOutcome.{ConnectionOutcome}
use Rattle.trial_model.specs.declared.outcome.DeviceOutcome.{DeviceOutcome}
use Rattle.trial_model.specs.Delivery.{delivered_of, heard_of}
use Rattle.trial_model.specs.Frames.{records_in}

pub record HasEvidence (logs : List ConnectionOutcome) (d : DeviceOutcome) : Type 0 where
  pub delivered : All (λ r. Any (λ c. (c.imei ≡ d.imei) × Contains (records_in (delivered_of c)) r) logs) d.archived
  pub heard : All (λ r. Contains d.flash r ⊎ Contains d.overwritten r ⊎ Contains d.cut r
      ⊎ (Contains d.archived r × Any (λ c. (c.imei ≡ d.imei) × Contains (records_in (heard_of c)) r) logs)) d.acquired
