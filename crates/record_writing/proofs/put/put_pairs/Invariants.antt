use Rattle.std.proofs.Common.{drop}
use Rattle.record_writing.proofs.Groups.{PairsLeft}
use Rattle.record_writing.proofs.put.put_pairs.Given as goal

abbrev pub invariant-loop-io : goal.invariant-loop-io
invariant-loop-io l = PairsLeft l.ids l.width l.initial.out.items l.ios l.out.items (drop l.io-index l.ios)
