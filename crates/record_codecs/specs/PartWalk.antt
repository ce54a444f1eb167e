-- A record walked part by part: where rows end once N of their bytes are passed.
use Rattle.std.specs.Prelude.{◌≡◌, ℕ, ◌+◌, ◌-◌, ◌≤◌, List, ◌∷◌, length, Option, None, MatchOption}
use Rattle.layout.specs.Rows.{Rows, judge}
use Rattle.record_layout.specs.declared.part.Part.{Part}
use Rattle.record_layout.specs.RecordRows.{parts_rows}
use Rattle.record_layout.specs.RecordsOf.{end_of}
use Rattle.record_codecs.specs.declared.part_walk.PartWalk.{PartWalk}
use Rattle.record_codecs.specs.RecordCursor.{Nothing, nothing}

-- from these bytes on the rows have no end
abbrev pub HasNoEnd : Rows Nothing → List ℕ → Type 0
HasNoEnd rows bytes = (place : ℕ) → end_of (judge rows place bytes) ≡ None

-- the rows end in these bytes where the others end in the rest of them
pub record EndsWith (rows : Rows Nothing) (bytes : List ℕ) (others : Rows Nothing) (rest : List ℕ) : Type 0 where
  pub within : length rest ≤ length bytes
  pub end : (place : ℕ) → end_of (judge rows place bytes) ≡ end_of (judge others (place + (length bytes - length rest)) rest)

-- the rows of the parts that are left
abbrev pub rows_left : List Part → PartWalk → Rows Nothing
rows_left left walk = parts_rows left walk.total walk.counted nothing

-- the walk is past the part: the parts end where those after it end, or nowhere
abbrev pub IsPast : Part → List Part → PartWalk → Option PartWalk → Type 0
IsPast p left walk result =
    MatchOption result (HasNoEnd (rows_left (p ∷ left) walk) walk.rest.now)
    (λ next. EndsWith (rows_left (p ∷ left) walk) walk.rest.now (rows_left left next) next.rest.now)
