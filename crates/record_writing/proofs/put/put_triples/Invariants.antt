use Rattle.std.proofs.Common.{drop}
use Rattle.avl_values.specs.declared.width.Width.TheVariants.{W2}
use Rattle.record_writing.proofs.Groups.{TriplesLeft}
use Rattle.record_writing.proofs.put.put_triples.Given as goal

abbrev pub invariant-loop-i : goal.invariant-loop-i
invariant-loop-i l = TriplesLeft W2 W2 l.initial.out.items l.nx l.out.items (drop l.i l.nx)
