use Rattle.std.proofs.Common.{◌≡◌, [], take}
use Rattle.std.specs.List.{filter_map}
use Rattle.trial_model.specs.Script.{device_on, lines_of}
use Rattle.fmb_drive.proofs.device.device_place.Given as goal

abbrev pub invariant-loop-i : goal.invariant-loop-i
invariant-loop-i l = filter_map (device_on (lines_of l.script)) (lines_of (take l.i l.script)) ≡ []
