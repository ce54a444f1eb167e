use Rattle.std.proofs.Common.{length}
use Rattle.timings.proofs.frame_work.push.Given as goal

abbrev pub decreases-loop-rest : goal.decreases-loop-rest
decreases-loop-rest l = length l.rest
