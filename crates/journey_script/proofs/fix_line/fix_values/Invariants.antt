use Rattle.std.proofs.Common.{◌≡◌, length}
use Rattle.journey_script.proofs.FieldLemmas.{with_front}
use Rattle.journey_script.specs.Lines.{read_values}
use Rattle.journey_script.proofs.fix_line.fix_values.Given as goal

abbrev pub invariant-fields : goal.invariant-fields
invariant-fields l = read_values l.fn.fields ≡ with_front l.values.items (read_values l.fields)

abbrev pub decreases-fields : goal.decreases-fields
decreases-fields l = length l.fields
