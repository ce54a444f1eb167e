use Rattle.std.proofs.Common.{[], ◌++◌, sym, ◌∙◌}
use Rattle.fmb_show.proofs.Printings.{nothing_printed}
use Rattle.fmb_show.proofs.Shows.{all_but_the_sink, all_done, begins, ended, ends_here, gave_up, goes_on}
use Rattle.fmb_show.proofs.capture.show_lines.Goals as goal

pub returns-in_default : goal.returns-in_default
returns-in_default g c =
    rw c.give_up.ensures.end (gave_up _ [] _ _ _ (begins c.args.capture) (c.give_up.ensures.line _ [] (nothing_printed (g.K.Sink.state c.args.sink.now))))

pub loop-line-init : goal.loop-line-init
loop-line-init g c = ([], nothing_printed _, rw c.into_iter-line-iterator.ensures.into_iter_gives (begins c.args.capture))

pub returns-in_default-line_text : goal.returns-in_default-line_text
returns-in_default-line_text g c =
    rw c.give_up-in_default-line_text.ensures.end (gave_up _ _ _ _ _ c.loop-line.invariant.2 (c.give_up-in_default-line_text.ensures.line _ _ c.loop-line.invariant.1))

pub returns-then-faulty : goal.returns-then-faulty
returns-then-faulty g c =
    let text = c.deref.ensures.value ∙ c.in-Ok-line_text.ensures.text in
    let e = ends_here _ _ c.deref.result.now _ _ _ c.loop-line.invariant.2 c.in-Some.ensures.steps text (sym c.in-Ok-line_text.ensures.faulty ∙ c.if-faulty.true) in
    ended _ _ _ _ _ e.0 e.1 (c.print-failed.ensures _ _ c.loop-line.invariant.1)

pub loop-line-preserved : goal.loop-line-preserved
loop-line-preserved g c =
    let text = c.deref.ensures.value ∙ c.in-Ok-line_text.ensures.text in (
      c.loop-line.invariant.0 ++ c.deref.result.now,
      c.print-failed.ensures _ _ c.loop-line.invariant.1,
      goes_on _ _ c.deref.result.now _ _ _ c.loop-line.invariant.2 c.in-Some.ensures.steps text (sym c.in-Ok-line_text.ensures.faulty ∙ c.if-faulty.false),
    )

pub returns-then-failed : goal.returns-then-failed
returns-then-failed g c = all_but_the_sink _ _ _ _ _ c.loop-line.invariant.2 c.in-None.ensures.steps.0 (rw c.if-failed.true at c.loop-line.invariant.1)

pub returns : goal.returns
returns g c = all_done _ _ _ _ _ c.loop-line.invariant.2 c.in-None.ensures.steps.0 (rw c.if-failed.false at c.loop-line.invariant.1)
