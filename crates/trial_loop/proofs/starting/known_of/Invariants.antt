use Rattle.std.proofs.Common.{◌≡◌, ◌++◌, drop}
use Rattle.trial_loop.proofs.StartLemmas.{marked}
use Rattle.trial_loop.proofs.starting.known_of.Given as goal

-- the IMEIs so far and those of the devices that are left
abbrev pub invariant-loop-device : goal.invariant-loop-device
invariant-loop-device l = l.known ++ marked (drop l.device-index l.devices) ≡ marked l.devices
