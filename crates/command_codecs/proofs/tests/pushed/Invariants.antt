use Rattle.std.proofs.Common.{◌≡◌, ◌+◌, length, take}
use Rattle.command_codecs.specs.Machines.{HasTaken}
use Rattle.command_codecs.proofs.tests.pushed.Given as goal

abbrev pub invariant-loop-i : goal.invariant-loop-i
invariant-loop-i g l = HasTaken l.machine (length l.body) l.way (take l.i l.body) × (l.steps ≡ l.initial.steps + l.i)
