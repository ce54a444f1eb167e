-- What a reader of a stream down holds.
use Rattle.std.specs.Prelude.{◌≡◌, ℕ, Bool, false, List}
use Rattle.frame_channel.specs.DownMachines.{HasTaken}
use Rattle.frame_channel.specs.declared.down_machine.DownMachine.{DownMachine}

-- the bytes of the unfinished item, and a machine that has taken them
pub record IsDown (have : List ℕ) (after_answer failed : Bool) (m : DownMachine) : Type 0 where
  pub taking : failed ≡ false → HasTaken m after_answer have
