use Rattle.std.proofs.Common.{◌≡◌, ℕ, drop, length, get_or}
use Rattle.medium.specs.Buffer.{IsOutside}
use Rattle.medium.proofs.spans.copy_spans.Given as goal

abbrev pub invariant-loop-i : goal.invariant-loop-i
invariant-loop-i l =
    record {
      size : length l.into ≡ length l.initial.into;
      left : (k : ℕ) → IsOutside (drop l.i l.spans) k → get_or l.into k 0 ≡ get_or l.from k 0;
    }
