use Rattle.std.proofs.Common.{◌≡◌, drop, false}
use Rattle.journey_script.specs.Compact.{script_in}
use Rattle.journey_script.specs.Drive.{drive_fault_from}
use Rattle.journey_script.proofs.drive.first_refused.Given as goal

abbrev pub invariant-loop-line : goal.invariant-loop-line
invariant-loop-line l = drive_fault_from l.after_device (script_in (drop l.line-index l.lines)) ≡ drive_fault_from false (script_in l.lines)
