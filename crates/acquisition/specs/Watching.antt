-- What a device remembers since power-up.
use Rattle.std.specs.Prelude.{ℕ, List, [], Option, None}
use Rattle.acquisition.specs.declared.last_fix.LastFix.{LastFix}
use Rattle.acquisition.specs.Settings.{AcquisitionSettings}

pub record Watching : Type 0 where
  -- the last fix that made a record
  pub last : Option LastFix
  -- the last value of each setting, none of them before the first fix
  pub watched : List ℕ

-- At power-up all is forgotten.
abbrev pub powered_up : Watching
powered_up = record { last = None; watched = [] }

-- an acquirer: its settings, and what it remembers
pub record Acquiring : Type 0 where
  pub settings : AcquisitionSettings
  pub watching : Watching
