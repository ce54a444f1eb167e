use Rattle.device_rows.specs.Played.{IsPlayed}
use Rattle.device_rows.proofs.device.step_all.Given as goal

abbrev pub invariant-loop-line : goal.invariant-loop-line
invariant-loop-line g l = IsPlayed l.line-index l.side
