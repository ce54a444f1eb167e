use Rattle.std.proofs.Common.{◌≡◌, ℕ, drop, length, get_or, false}
use Rattle.medium.specs.Buffer.{IsOutside}
use Rattle.medium.proofs.spans.unmark.Given as goal

abbrev pub invariant-loop-i : goal.invariant-loop-i
invariant-loop-i l =
    record {
      size : length l.marks ≡ length l.initial.marks;
      left : (k : ℕ) → IsOutside (drop l.i l.spans) k → get_or l.marks k false ≡ false;
    }
