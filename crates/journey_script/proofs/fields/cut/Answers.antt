use Rattle.journey_script.proofs.FieldLemmas.{fields_cut}
use Rattle.journey_script.proofs.fields.cut.Goals as goal

pub returns : goal.returns
returns c = fields_cut c.args.line.now c.split_once.result c.split_once.ensures.parts
