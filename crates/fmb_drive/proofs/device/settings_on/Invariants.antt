use Rattle.std.proofs.Common.{◌≡◌, take}
use Rattle.std.specs.List.{filter_map}
use Rattle.trial_model.specs.Script.{lines_of, setting_on}
use Rattle.fmb_drive.proofs.device.settings_on.Given as goal

abbrev pub invariant-loop-i : goal.invariant-loop-i
invariant-loop-i l = l.settings.items ≡ filter_map (setting_on l.imei) (lines_of (take l.i l.script))
