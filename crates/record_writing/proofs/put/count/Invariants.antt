use Rattle.std.proofs.Common.{◌≡◌, ◌+◌, ◌≤◌, length, drop}
use Rattle.avl_values.specs.RecordValue.{pairs_of}
use Rattle.record_writing.proofs.put.count.Given as goal

abbrev pub invariant-loop-io : goal.invariant-loop-io
invariant-loop-io l = (l.n + length (pairs_of l.width (drop l.io-index l.ios)) ≡ length (pairs_of l.width l.ios)) × (l.n ≤ l.io-index)
