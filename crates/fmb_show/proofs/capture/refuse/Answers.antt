use Rattle.std.proofs.Common.{[], refl, sym, ap, ◌∙◌}
use Rattle.text_streams.specs.Refused.{refused_line}
use Rattle.fmb_show.proofs.Printings.{nothing_printed}
use Rattle.fmb_show.proofs.Shows.{ended, showed_no_memory}
use Rattle.fmb_show.proofs.capture.refuse.Goals as goal

pub returns-in_default : goal.returns-in_default
returns-in_default g c = rw c.give_up.ensures.end (showed_no_memory _ _ _ 0 (c.give_up.ensures.line _ [] (nothing_printed (g.K.Sink.state c.args.sink.now))))

pub returns : goal.returns
returns g c =
    ended _ _ _ _ _ (ap (λ name. refused_line c.args.refusal.line name) (sym c.name.ensures) ∙ sym c.in-Ok.ensures ∙ sym c.deref.ensures.value) refl
    (c.print.ensures _ [] (nothing_printed (g.K.Sink.state c.args.sink.now)))
