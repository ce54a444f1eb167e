-- What a device returns to a command (Teltonika, Data Sending Protocols: Codec 12, Codec 14).
use Rattle.std.specs.Prelude.{ℕ, List, [], Option, Some, None, if◌then◌else◌}
use Rattle.command_layout.specs.Answers.{answer_to, asks_shell, value_in}
use Rattle.command_layout.specs.Spelling.{command_of}
use Rattle.command_layout.specs.Values.{CommandValue}
use Rattle.command_layout.specs.declared.way.Way.TheVariants.{Down}
use Rattle.frame_layout.specs.Items.{frame_of}

-- what a shell means: its answer, and its state after it
pub record ShellMeaning (S : Type 0) : Type 0 where
  pub says : S → List ℕ → List ℕ
  pub obeyed : S → List ℕ → S

module _ {S : Type 0} (m : ShellMeaning S) (imei : ℕ) (shell : S) where
  abbrev pub answer_by : Option CommandValue → List ℕ
  answer_by None = []
  answer_by (Some v) = frame_of (command_of (answer_to imei (m.says shell v.text) v))

  abbrev pub shell_by : Option CommandValue → S
  shell_by None = shell
  shell_by (Some v) = if asks_shell imei v then m.obeyed shell v.text else shell

-- the frame of the answer to a command with this body
abbrev pub answer_frame : {S : Type 0} → ShellMeaning S → ℕ → S → List ℕ → List ℕ
answer_frame m imei shell body = answer_by m imei shell (value_in Down body)

-- The shell after a command with this body. It isn't asked where the command is for another device.
abbrev pub shell_after : {S : Type 0} → ShellMeaning S → ℕ → S → List ℕ → S
shell_after m imei shell body = shell_by m imei shell (value_in Down body)
