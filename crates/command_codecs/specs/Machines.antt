-- Where a machine stands that takes a command's body byte by byte.
use Rattle.std.specs.Prelude.{◌≡◌, ℕ, List}
use Rattle.field_machine.specs.Machines as machine
use Rattle.command_layout.specs.declared.way.Way.{Way}
use Rattle.command_layout.specs.CommandRows.{command_rows, command_verdict}
use Rattle.command_codecs.specs.declared.machine.CommandMachine.{CommandMachine}
use Rattle.command_codecs.specs.declared.verdict.CommandScan.{CommandScan}
use Rattle.command_codecs.specs.declared.verdict.CommandScan.TheVariants.{More, Whole, Broken}
use Rattle.command_codecs.specs.Places.{StandsAt, place_left}
use Rattle.command_codecs.specs.Verdicts.{scan_verdict, without_value}

-- The machine has taken these bytes of a body of `total` bytes that passes this way, and every answer so far was More.
abbrev pub HasTaken : CommandMachine → ℕ → Way → List ℕ → Type 0
HasTaken m total way bytes = machine.HasTaken place_left StandsAt m.machine total (command_rows way total) bytes

-- the machine has taken some bytes, and every answer so far was More
pub record IsTaking (m : CommandMachine) : Type 0 where
  pub total : ℕ
  pub way : Way
  pub bytes : List ℕ
  pub has : HasTaken m total way bytes

-- how many bytes it has taken
abbrev pub taken_of : CommandMachine → ℕ
taken_of m = machine.taken_of m.machine

-- the answer is the verdict on all the bytes, and while it is More the machine goes on from them
abbrev pub Answers : CommandMachine → ℕ → Way → List ℕ → CommandScan → Type 0
Answers m total way bytes More = (scan_verdict total More ≡ without_value (command_verdict way total bytes)) × HasTaken m total way bytes
Answers m total way bytes Whole = scan_verdict total Whole ≡ without_value (command_verdict way total bytes)
Answers m total way bytes (Broken found) = scan_verdict total (Broken found) ≡ without_value (command_verdict way total bytes)
