-- Rows and verdicts that say something else of their value (this project's own).
use Rattle.layout.specs.Rows.{Rows, done, Verdict, whole, short, fault}
use Rattle.layout.specs.Fields.{followed_by}

-- the same rows, which say this of their value
abbrev pub map_value : {V W : Type 0} → (V → W) → Rows V → Rows W
map_value says rows = followed_by rows (λ v. done (says v))

-- the same verdict, which says this of the value
abbrev pub map_verdict : {V W : Type 0} → (V → W) → Verdict V → Verdict W
map_verdict says (whole v n) = whole (says v) n
map_verdict says short = short
map_verdict says (fault kind place) = fault kind place
