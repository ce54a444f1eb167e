-- What the machine over a command's place answers, as the command's verdict.
use Rattle.std.proofs.Common.{◌≡◌, ℕ, ◌<◌, List, length, sym, ap}
use Rattle.layout.specs.Rows.{judge, body, short, Verdict}
use Rattle.field_machine.specs.Machines as machine
use Rattle.field_machine.specs.Verdicts.{IsVerdict}
use Rattle.field_machine.specs.declared.verdict.Scan.{Scan}
use Rattle.field_machine.specs.declared.verdict.Scan.TheVariants.{More, Whole, Broken}
use Rattle.field_machine.proofs.MachineSteps as steps
use Rattle.command_layout.specs.declared.way.Way.{Way}
use Rattle.command_layout.specs.CommandRows.{command_rows, command_verdict}
use Rattle.command_layout.specs.Values.{CommandValue}
use Rattle.command_codecs.specs.declared.machine.CommandMachine.{CommandMachine}
use Rattle.command_codecs.specs.Machines.{Answers, HasTaken}
use Rattle.command_codecs.specs.Places.{SaysNothing, StandsAt, place_leaves, place_left}
use Rattle.command_codecs.specs.Verdicts.{command_scan, scan_verdict, without_value}

as_verdict : (total : ℕ) (s : Scan (Unit {0})) (v : Verdict CommandValue) → IsVerdict SaysNothing total s v → scan_verdict total (command_scan s) ≡ without_value v
as_verdict total More v is = ap without_value (sym is)
as_verdict total (Whole head) v is = ap without_value (sym is.1)
as_verdict total (Broken found) v is = ap without_value (sym is)

pub scanned : (way : Way) (total : ℕ) (bytes : List ℕ) (s : Scan (Unit {0})) → IsVerdict SaysNothing total s (judge (body total (command_rows way total)) 0 bytes) → scan_verdict total (command_scan s) ≡ without_value (command_verdict way total bytes)
unfolding command_verdict
scanned way total bytes s is = as_verdict total s (judge (body total (command_rows way total)) 0 bytes) is

pub answered : (m : CommandMachine) (way : Way) (total : ℕ) (bytes : List ℕ) (s : Scan (Unit {0})) → IsVerdict SaysNothing total s (judge (body total (command_rows way total)) 0 bytes) → machine.GoesOn place_left StandsAt m.machine total (command_rows way total) bytes s
    → Answers m total way bytes (command_scan s)
answered m way total bytes More is on = (scanned way total bytes More is, on)
answered m way total bytes (Whole head) is on = scanned way total bytes (Whole head) is
answered m way total bytes (Broken found) is on = scanned way total bytes (Broken found) is

-- What a machine has taken is short, and fewer bytes than the body's length.

pub taken_short : (m : CommandMachine) (total : ℕ) (way : Way) (bytes : List ℕ) → HasTaken m total way bytes → command_verdict way total bytes ≡ short
unfolding command_verdict
taken_short m total way bytes h = steps.taken_short place_left SaysNothing StandsAt place_leaves m.machine total (command_rows way total) bytes h

pub taken_below : (m : CommandMachine) (total : ℕ) (way : Way) (bytes : List ℕ) → HasTaken m total way bytes → length bytes < total
taken_below m total way bytes h = steps.taken_below place_left SaysNothing StandsAt place_leaves m.machine total (command_rows way total) bytes h
