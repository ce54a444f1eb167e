-- Where a machine stands that takes an item up byte by byte.
use Rattle.std.specs.Prelude.{◌≡◌, ℕ, Bool, true, false, List, length}
use Rattle.layout.specs.Rows.{whole, fault}
use Rattle.command_layout.specs.declared.way.Way.TheVariants.{Up}
use Rattle.frame_layout.specs.UpRows.{up_verdict}
use Rattle.frame_layout.specs.Values.{frame_value, login}
use Rattle.frame_channel.specs.FrameMachines as frame_machine
use Rattle.field_machine.specs.Machines as login_machine
use Rattle.frame_channel.specs.LoginPlaces.{StandsInLogin, imei_rows, login_left}
use Rattle.frame_channel.specs.declared.up_machine.UpMachine.{UpMachine}
use Rattle.frame_channel.specs.declared.up_machine.UpMachine.TheVariants as machine
use Rattle.frame_channel.specs.declared.up_machine.UpStep.{UpStep}
use Rattle.frame_channel.specs.declared.up_machine.UpStep.TheVariants as step

-- the machine has taken these bytes of an item, and no field of them failed
abbrev pub HasTaken : UpMachine → Bool → List ℕ → Type 0
HasTaken (machine.Login m) after_login bytes = (after_login ≡ false) × login_machine.HasTaken login_left StandsInLogin m 17 imei_rows bytes
HasTaken (machine.Frame m) after_login bytes = (after_login ≡ true) × frame_machine.HasTaken m Up bytes

-- the machine has taken some bytes
pub record IsTaking (m : UpMachine) : Type 0 where
  pub after_login : Bool
  pub bytes : List ℕ
  pub has : HasTaken m after_login bytes

-- the answer is the verdict on all the bytes, and while that is short the machine goes on from them
abbrev pub Answers : UpMachine → Bool → List ℕ → UpStep → Type 0
Answers m after_login bytes step.More = HasTaken m after_login bytes
Answers m after_login bytes (step.Login imei) = up_verdict after_login bytes ≡ whole (login imei) (length bytes)
Answers m after_login bytes (step.Frame kind) = (body : List ℕ) × (up_verdict after_login bytes ≡ whole (frame_value kind body) (length bytes))
Answers m after_login bytes (step.Broken found) = up_verdict after_login bytes ≡ fault found.kind found.place
