use Rattle.std.proofs.Common.{◌≡◌, ◌≤◌, ◌+◌, length, drop}
use Rattle.std.specs.List.{filter_map}
use Rattle.trial_model.specs.Script.{device_on, devices_of, lines_of}
use Rattle.fmb_trial.proofs.benches.device_count.Given as goal

abbrev pub invariant-lines : goal.invariant-lines
invariant-lines l = record {
  few : l.count ≤ l.i;
  left : l.count + length (filter_map (device_on (lines_of l.script)) (drop l.i (lines_of l.script))) ≡ length (devices_of (lines_of l.script));
}
