-- What contracts see of a medium over a file of the operating system: nothing of its content.
use Rattle.std.specs.Prelude.{ℕ, Bool, None}
use Rattle.medium_model.specs.CallsLeft.{unknown}
use Rattle.medium_model.specs.State.{MediumState}

pub record FileView : Type 0 where
  pub ready : ℕ
  pub faults : ℕ
  -- a sync has failed
  pub broken : Bool

abbrev pub file_state : FileView → MediumState
file_state f = record { content = None; left = unknown; ready = f.ready; faults = f.faults }
