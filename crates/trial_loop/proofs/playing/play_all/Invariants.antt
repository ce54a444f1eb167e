use Rattle.trial_loop.proofs.AllLines.{Played}
use Rattle.trial_loop.proofs.playing.play_all.Given as goal

abbrev pub invariant-loop-i : goal.invariant-loop-i
invariant-loop-i g l = Played l.script l.i l.initial.trial l.trial
