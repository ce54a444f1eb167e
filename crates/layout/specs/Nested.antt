-- Items that hold a body: rows that also say their bytes, and a verdict that goes on after the body.
use Rattle.std.specs.Prelude.{ℕ, ◌+◌, List, ◌++◌}
use Rattle.layout.specs.Rows.{Rows, done, refuse, row, Verdict, whole, short, fault}

-- the same rows, which say their bytes too, after those that were seen
unfoldable pub with_bytes : {V : Type 0} → List ℕ → Rows V → Rows (V × List ℕ)
with_bytes seen (done v) = done (v, seen)
with_bytes seen (refuse kind) = refuse kind
with_bytes seen (row width rule rest) = row width rule (λ field. with_bytes (seen ++ field) (rest field))

-- the verdict on what a body's verdict leaves open
abbrev pub and_then : {V W : Type 0} → Verdict V → (V → ℕ → Verdict W) → Verdict W
and_then (whole v n) next = next v n
and_then short next = short
and_then (fault kind place) next = fault kind place

-- the verdict, N bytes further on
abbrev pub moved : {V : Type 0} → ℕ → Verdict V → Verdict V
moved by (whole v n) = whole v (by + n)
moved by short = short
moved by (fault kind place) = fault kind (by + place)
