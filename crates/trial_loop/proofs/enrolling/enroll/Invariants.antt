use Rattle.std.proofs.Common.{◌≡◌, take}
use Rattle.journey_script.specs.Grammar.{IsScript}
use Rattle.trial_model.specs.Script.{devices_of, lines_of}
use Rattle.trial_loop.proofs.enrolling.enroll.Given as goal

abbrev pub invariant-loop-i : goal.invariant-loop-i
invariant-loop-i l = record {
  is_script : IsScript l.script;
  so_far : l.devices.items ≡ devices_of (take l.i (lines_of l.script));
}
