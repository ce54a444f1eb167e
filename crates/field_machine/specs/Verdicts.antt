-- What the judging calls answer, as verdicts.
use Rattle.std.specs.Prelude.{◌≡◌, ℕ}
use Rattle.layout.specs.Rows.{Verdict, whole, short, fault}
use Rattle.field_machine.specs.declared.verdict.Scan.{Scan}
use Rattle.field_machine.specs.declared.verdict.Scan.TheVariants.{More, Whole, Broken}

-- The answer is this verdict on the first bytes of a body of `total` bytes.
abbrev pub IsVerdict : {H V : Type 0} → (H → V → Type 0) → ℕ → Scan H → Verdict V → Type 0
IsVerdict says total More verdict = verdict ≡ short
IsVerdict {V = V} says total (Whole head) verdict = (v : V) × (verdict ≡ whole v total) × says head v
IsVerdict says total (Broken found) verdict = verdict ≡ fault found.kind found.place
