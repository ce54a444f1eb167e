use Rattle.std.proofs.Common.{◌<◌, length, arith}
use Rattle.fmb_text.proofs.AppendLemmas.{at_drop_got}
use Rattle.fmb_serve.specs.Statuses.{any_door_failed}
use Rattle.fmb_serve.proofs.Loops.{none_here, one_here}
use Rattle.fmb_serve.proofs.statuses.door_failed.Goals as goal

pub returns-then-at : goal.returns-then-at
returns-then-at c =
    let inside : c.workers.i < length c.args.workers.now = omega (arith, c.len-i-end.ensures, c.workers-test.true) in
    one_here _ (c.at.result.now.door_failed) _ _ c.workers.invariant (at_drop_got any_door_failed c.args.workers.now c.workers.i c.at.result.now inside c.at.ensures) (c.if-at.true)

pub workers-preserved : goal.workers-preserved
workers-preserved c =
    let inside : c.workers.i < length c.args.workers.now = omega (arith, c.len-i-end.ensures, c.workers-test.true) in
    none_here _ (c.at.result.now.door_failed) _ _ c.workers.invariant (at_drop_got any_door_failed c.args.workers.now c.workers.i c.at.result.now inside c.at.ensures) (c.if-at.false)
