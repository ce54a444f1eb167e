use Rattle.std.proofs.Common.{◌≡◌, ◌+◌, ◌*◌, ◌≤◌, drop}
use Rattle.record_writing.specs.Length.{ios_length}
use Rattle.record_writing.proofs.length.ios_length.Given as goal

abbrev pub invariant-loop-io : goal.invariant-loop-io
invariant-loop-io l = (l.total + ios_length l.ids (drop l.io-index l.ios) ≡ ios_length l.ids l.ios) × (l.total ≤ 16 * l.io-index)
