-- One line more was played.
use Rattle.std.proofs.Common.{arith}
use Rattle.trial_loop.proofs.AllLines.{next-line, played-all, played-more, played-none}
use Rattle.trial_loop.proofs.playing.play_all.Goals as goal

pub loop-i-init : goal.loop-i-init
loop-i-init g c = played-none c.args.script.now c.args.trial

pub play-requires : goal.play-requires
play-requires g c = (
  c.args.script.now,
  c.loop-i.i,
  next-line c.args.script.now c.len-i-end.ensures.is_script c.args.trial c.requires c.loop-i.i c.line_at.result c.line_at.ensures c.loop-i.trial c.loop-i.invariant,
)

pub loop-i-preserved : goal.loop-i-preserved
loop-i-preserved g c =
    played-more c.args.script.now c.len-i-end.ensures.is_script c.args.trial c.requires c.loop-i.i c.line_at.result c.line_at.ensures c.loop-i.trial c.loop-i.invariant c.in_ok-trial.trial c.in_ok-trial.ensures

pub returns-clause-plays : goal.returns-clause-plays
returns-clause-plays g c = played-all c.args.script.now c.loop-i.i c.args.trial c.loop-i.trial (omega (arith, c.len-i-end.ensures.len, c.loop-i.auto.i-end, c.loop-i-test.false)) c.loop-i.invariant
