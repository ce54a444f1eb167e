use Rattle.text_lines.proofs.CutLemmas.{first_line_found, last_line_found}
use Rattle.text_lines.proofs.cutting.first_line.Goals as goal

pub returns-in-Some-clause-line : goal.returns-in-Some-clause-line
returns-in-Some-clause-line c = rw c.without_cr.ensures (first_line_found c.args.text.now c.in-Some.line.now c.in-Some.rest.now c.in-Some.ensures.parts)

pub returns-in-None-clause-line : goal.returns-in-None-clause-line
returns-in-None-clause-line c = last_line_found c.args.text.now c.requires c.in-None.ensures.parts
