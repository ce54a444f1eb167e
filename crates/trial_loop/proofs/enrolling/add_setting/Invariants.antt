use Rattle.std.proofs.Common.{◌≡◌, ◌++◌, take, drop}
use Rattle.trial_loop.specs.Enrolling.{with_setting}
use Rattle.trial_loop.proofs.enrolling.add_setting.Given as goal

-- the devices so far have the setting
abbrev pub invariant-loop-place : goal.invariant-loop-place
invariant-loop-place l = l.devices ≡ with_setting l.imei l.setting (take l.place l.fn.devices) ++ drop l.place l.fn.devices
