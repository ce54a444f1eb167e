-- Benches before a trial, and a trial before its first line.
use Rattle.std.specs.Prelude.{◌≡◌, List, [], Some}
use Rattle.medium_model.specs.CallsLeft.{unlimited}
use Rattle.medium_model.specs.Content.{settled}
use Rattle.medium_model.specs.State.{MediumState}
use Rattle.trial_model.specs.Script.{Device}
use Rattle.trial_play.specs.Starting.{StartsTrial}
use Rattle.trial_loop.specs.Loops.{KnowsMarked, LoopState}

-- empty, with nothing on the way, and not armed
pub record IsNewBench (m : MediumState) : Type 0 where
  pub empty : m.content ≡ Some (settled [])
  pub idle : m.left ≡ unlimited

-- nothing was played yet
pub record Starts (devices : List Device) (s : LoopState) : Type 0 where
  pub trial : StartsTrial devices s.trial
  pub known : KnowsMarked devices s.known
