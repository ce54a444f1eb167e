use Rattle.std.proofs.Common.{◌<◌, length, sym, ◌∙◌, arith}
use Rattle.fmb_text.proofs.AppendLemmas.{at_drop_got}
use Rattle.fmb_serve.specs.Statuses.{is_out_of_memory, ran_out}
use Rattle.fmb_serve.proofs.Loops.{none_here, one_here}
use Rattle.fmb_serve.proofs.statuses.ran_out.Goals as goal

pub returns-then-is_out : goal.returns-then-is_out
returns-then-is_out c =
    let inside : c.sessions.i < length c.args.served.now = omega (arith, c.len-i-end.ensures, c.sessions-test.true) in
    one_here _ (is_out_of_memory c.at.result.now.end) _ _ c.sessions.invariant (at_drop_got ran_out c.args.served.now c.sessions.i c.at.result.now inside c.at.ensures) (sym c.is_out.ensures ∙ c.if-is_out.true)

pub sessions-preserved : goal.sessions-preserved
sessions-preserved c =
    let inside : c.sessions.i < length c.args.served.now = omega (arith, c.len-i-end.ensures, c.sessions-test.true) in
    none_here _ (is_out_of_memory c.at.result.now.end) _ _ c.sessions.invariant (at_drop_got ran_out c.args.served.now c.sessions.i c.at.result.now inside c.at.ensures) (sym c.is_out.ensures ∙ c.if-is_out.false)
