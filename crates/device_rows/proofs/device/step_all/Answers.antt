use Rattle.std.proofs.Common.{◌^◌, arith}
use Rattle.device_rows.proofs.Playing.{played-more}
use Rattle.device_rows.proofs.device.step_all.Goals as goal

pub play_one-requires : goal.play_one-requires
play_one-requires g c = played-more c.loop-line.line-index (2 ^ 32) c.loop-line.side (omega (arith, c.loop-line-test.true, c.requires.few)) c.loop-line.invariant

pub loop-line-preserved : goal.loop-line-preserved
loop-line-preserved g c = c.in_ok-play_one.ensures c.loop-line.line-index c.loop-line.invariant
