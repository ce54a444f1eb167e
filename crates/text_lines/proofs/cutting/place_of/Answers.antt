use Rattle.text_lines.proofs.CutLemmas.{first_place}
use Rattle.text_lines.proofs.cutting.place_of.Goals as goal

pub returns-clause-place : goal.returns-clause-place
returns-clause-place c = first_place c.args.byte c.args.text.now c.memchr.result c.memchr.ensures
