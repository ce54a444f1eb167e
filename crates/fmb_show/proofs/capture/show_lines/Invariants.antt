use Rattle.std.proofs.Common.{ℕ, List}
use Rattle.fmb_show.specs.Printing.{HasPrinted}
use Rattle.fmb_show.proofs.Shows.{GoesOn}
use Rattle.fmb_show.proofs.capture.show_lines.Given as goal

abbrev pub invariant-loop-line : goal.invariant-loop-line
invariant-loop-line g l =
    (printed : List ℕ) × HasPrinted (g.K.Sink.state l.initial.sink) (g.K.Sink.state l.sink) l.failed printed × GoesOn l.fn.capture printed l.line-iterator
