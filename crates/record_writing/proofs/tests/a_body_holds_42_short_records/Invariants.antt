use Rattle.std.proofs.Common.{◌≡◌}
use Rattle.avl_values.specs.declared.codec.Codec.TheVariants.{C8}
use Rattle.record_layout.specs.SomeRecord.{IsSomeRecord}
use Rattle.record_writing.proofs.tests.a_body_holds_42_short_records.Given as goal

abbrev pub invariant-loop : goal.invariant-loop
invariant-loop g l = (l.body.codec ≡ C8) × IsSomeRecord C8 l.out.items
