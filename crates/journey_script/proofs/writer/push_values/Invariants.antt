use Rattle.std.proofs.Common.{◌≡◌, ◌++◌, map, take}
use Rattle.journey_script.specs.Table.{spell_field, value_kind}
use Rattle.journey_script.specs.WrittenText.{after_words}
use Rattle.journey_script.proofs.writer.push_values.Given as goal

abbrev pub invariant-loop-value : goal.invariant-loop-value
invariant-loop-value l = l.text.items ≡ l.fn.text.items ++ after_words (map (spell_field value_kind) (take l.value-index l.values))
