use Rattle.fmb_show.proofs.Printings.{line_printed}
use Rattle.fmb_show.proofs.capture.give_up.Goals as goal

pub returns-clause-line : goal.returns-clause-line
returns-clause-line g c = λ start printed has. line_printed start _ _ _ (c.print.ensures start printed has)
