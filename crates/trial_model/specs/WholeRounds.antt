-- A known device's round or drain that is delivered whole empties its batch: it ends Done or Empty, unless the device's
-- or the server's medium failed. Done(n) has n records in its frames, all heard and archived, in one frame on a round.
use Rattle.std.specs.Prelude.{ℕ, ◌≡◌, Bool, true, false, List, length}
use Rattle.avl_values.specs.Record.{Record}
use Rattle.trial_model.specs.declared.outcome.ConnectionOutcome.{ConnectionOutcome}
use Rattle.trial_model.specs.declared.outcome.DeviceEnd.{DeviceEnd}
use Rattle.trial_model.specs.declared.outcome.DeviceEnd.TheVariants as End
use Rattle.trial_model.specs.Answers.{is_fault}
use Rattle.trial_model.specs.Connections.{is_whole}
use Rattle.trial_model.specs.Delivery.{heard_of}
use Rattle.trial_model.specs.Frames.{frames_of, records_in}
use Rattle.trial_model.specs.RecordLists.{AreIn}
use Rattle.trial_model.specs.Script.{Opening}

abbrev pub IsOneFrame : Bool → ConnectionOutcome → Type 0
IsOneFrame false c = length (frames_of c.up) ≡ 1
IsOneFrame true c = Unit {0}

pub record IsReleased (drains : Bool) (archived : List Record) (n : ℕ) (c : ConnectionOutcome) : Type 0 where
  pub records : n ≡ length (records_in (frames_of c.up))
  pub heard : heard_of c ≡ frames_of c.up
  pub stored : AreIn archived (records_in (frames_of c.up))
  pub one : IsOneFrame drains c

abbrev pub EmptiesBatch : Bool → List Record → ConnectionOutcome → DeviceEnd → Type 0
EmptiesBatch drains archived c (End.Done n) = IsReleased drains archived n c
EmptiesBatch drains archived c End.Empty = Unit {0}
EmptiesBatch drains archived c End.Refused = is_fault c.server ≡ true
EmptiesBatch drains archived c End.Broken = is_fault c.server ≡ true
EmptiesBatch drains archived c (End.WrongAnswer got) = is_fault c.server ≡ true
EmptiesBatch drains archived c End.TooManyCommands = is_fault c.server ≡ true
EmptiesBatch drains archived c End.MediumFault = Unit {0}

abbrev pub IsWholeRound : Bool → Opening → List Record → ConnectionOutcome → Type 0
IsWholeRound known o archived c = known ≡ true → is_whole o ≡ true → EmptiesBatch o.drains archived c c.device
