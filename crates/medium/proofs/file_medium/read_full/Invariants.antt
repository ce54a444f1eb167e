use Rattle.std.proofs.Common.{◌≤◌, length}
use Rattle.medium.proofs.file_medium.read_full.Given as goal

abbrev pub invariant-loop-call : goal.invariant-loop-call
invariant-loop-call l = l.done ≤ length l.into
