use Rattle.std.proofs.Common.{◌<◌, length, sym, ◌∙◌, arith}
use Rattle.fmb_text.proofs.AppendLemmas.{at_drop_got}
use Rattle.fmb_serve.specs.Statuses.{any_ran_out, ran_out}
use Rattle.fmb_serve.proofs.Loops.{none_here, one_here}
use Rattle.fmb_serve.proofs.statuses.memory_failed.Goals as goal

pub returns-then-ran_out : goal.returns-then-ran_out
returns-then-ran_out c =
    let inside : c.workers.i < length c.args.workers.now = omega (arith, c.len-i-end.ensures, c.workers-test.true) in
    one_here _ (ran_out c.at.result.now.served) _ _ c.workers.invariant (at_drop_got any_ran_out c.args.workers.now c.workers.i c.at.result.now inside c.at.ensures) (sym c.ran_out.ensures ∙ c.if-ran_out.true)

pub workers-preserved : goal.workers-preserved
workers-preserved c =
    let inside : c.workers.i < length c.args.workers.now = omega (arith, c.len-i-end.ensures, c.workers-test.true) in
    none_here _ (ran_out c.at.result.now.served) _ _ c.workers.invariant (at_drop_got any_ran_out c.args.workers.now c.workers.i c.at.result.now inside c.at.ensures) (sym c.ran_out.ensures ∙ c.if-ran_out.false)
