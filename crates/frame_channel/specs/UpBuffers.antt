-- What a reader of a stream up holds.
use Rattle.std.specs.Prelude.{◌≡◌, ℕ, ◌+◌, ◌≤◌, Bool, false, List, length, take}
use Rattle.frame_channel.specs.UpMachines.{HasTaken}
use Rattle.frame_channel.specs.declared.up_machine.UpMachine.{UpMachine}

-- a buffer with the bytes of the unfinished item and one with the frame that was last whole, each of the size of the longest
-- frame; and a machine that has taken those bytes
pub record IsUp (buffer last : List ℕ) (len body_len : ℕ) (after_login failed : Bool) (m : UpMachine) : Type 0 where
  pub room : length buffer ≡ 65547
  pub last_room : length last ≡ 65547
  pub fits : len ≤ 65547
  pub body_fits : 8 + body_len ≤ 65547
  pub taking : failed ≡ false → HasTaken m after_login (take len buffer)
