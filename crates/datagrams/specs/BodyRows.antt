-- Rows of a data body that also say its bytes: the next field is the data body's.
use Rattle.std.proofs.Common.{◌≡◌, ℕ, List, ◌++◌, Some, refl}
use Rattle.layout.specs.Fields.{followed_by}
use Rattle.layout.specs.MappedRows.{map_value}
use Rattle.layout.specs.Nested.{with_bytes}
use Rattle.layout.specs.Next.{rows_after, rule_of, width_of}
use Rattle.layout.specs.Rows.{Rows, done, refuse, row}

module _ {V W : Type 0} (says : List ℕ → W) where
  -- rows that say what the bytes say, after those that were seen
  abbrev pub said_rows : List ℕ → Rows V → Rows W
  said_rows seen rows = map_value (λ b. says b.1) (with_bytes seen rows)

  pub said_done : (seen : List ℕ) (v : V) → said_rows seen (done v) ≡ done (says seen)
  unfolding with_bytes followed_by
  said_done seen v = refl

  pub said_width : (seen : List ℕ) (rows : Rows V) (w : ℕ) → width_of rows ≡ Some w → width_of (said_rows seen rows) ≡ Some w
  unfolding with_bytes followed_by
  said_width seen (done v) w e = absurd (cc)
  said_width seen (refuse kind) w e = absurd (cc)
  said_width seen (row width rule rest) w e = e

  pub said_rule : (seen : List ℕ) (rows : Rows V) (w : ℕ) (field : List ℕ) → width_of rows ≡ Some w → rule_of (said_rows seen rows) field ≡ rule_of rows field
  unfolding with_bytes followed_by
  said_rule seen (done v) w field e = absurd (cc)
  said_rule seen (refuse kind) w field e = absurd (cc)
  said_rule seen (row width rule rest) w field e = refl

  pub said_after : (seen : List ℕ) (rows : Rows V) (w : ℕ) (field : List ℕ) → width_of rows ≡ Some w → rows_after (said_rows seen rows) field ≡ said_rows (seen ++ field) (rows_after rows field)
  unfolding with_bytes followed_by
  said_after seen (done v) w field e = absurd (cc)
  said_after seen (refuse kind) w field e = absurd (cc)
  said_after seen (row width rule rest) w field e = refl
