-- Each acquired record is on flash, archived, overwritten or cut. It may be in several of them.
use Rattle.std.specs.Prelude.{◌⊎◌}
use Rattle.std.specs.List.{All, Contains}
use Rattle.trial_model.specs.declared.outcome.DeviceOutcome.{DeviceOutcome}

abbrev pub HasLostNothing : DeviceOutcome → Type 0
HasLostNothing d = All (λ r. Contains d.flash r ⊎ Contains d.archived r ⊎ Contains d.overwritten r ⊎ Contains d.cut r) d.acquired
