use Rattle.std.proofs.Common.{arith}
use Rattle.journey_script.proofs.FieldLemmas.{fields_count}
use Rattle.journey_script.proofs.fields.count_of.Goals as goal

pub returns : goal.returns
returns c = omega (arith, fields_count c.args.line.now, c.spaces.ensures.spaces)
