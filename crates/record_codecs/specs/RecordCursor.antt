-- What is left of a record's rows at a place of the code.
use Rattle.std.specs.Prelude.{◌≡◌, ℕ, List, ◌∷◌, drop, Option, Some, None, Result, Ok, Err}
use Rattle.avl_values.specs.Width.{bytes_of}
use Rattle.avl_values.specs.declared.fault.FaultKind.{FaultKind}
use Rattle.layout.specs.Rows.{Rows, done}
use Rattle.layout.specs.Fields.{any, number_row, times}
use Rattle.layout.specs.Next.{rule_of, rows_after}
use Rattle.record_layout.specs.declared.part.Part.{Part}
use Rattle.record_layout.specs.declared.part.Part.TheVariants as part
use Rattle.record_layout.specs.RecordRows.{count_rule, pair_rows, triple_rows, parts_rows}
use Rattle.record_layout.specs.Table.{parts_of}
use Rattle.record_codecs.specs.declared.in_record.InRecord.{InRecord}
use Rattle.record_codecs.specs.declared.in_record.InRecord.TheVariants as at
use Rattle.record_codecs.specs.declared.in_record.RecordState.{RecordState}

abbrev pub Nothing : Type 0
Nothing = Unit {0}

abbrev pub nothing : Rows Nothing
nothing = done (tt {0})

-- the parts of the record from the next one on
abbrev pub parts_left : RecordState → Rows Nothing
parts_left r = parts_rows (drop r.part (parts_of r.codec)) r.total r.counted nothing

abbrev pub rows_in : InRecord → Rows Nothing
rows_in (at.Part r p) = parts_rows (p ∷ drop r.part (parts_of r.codec)) r.total r.counted nothing
rows_in (at.Id r p) = any (bytes_of p.id) (any (bytes_of p.value) (times p.left (pair_rows p.id p.value) (parts_left r)))
rows_in (at.Value r p) = any (bytes_of p.value) (times p.left (pair_rows p.id p.value) (parts_left r))
rows_in (at.TextId r t) = any (bytes_of t.id) (number_row (bytes_of t.length) (λ _. None) (λ n. any n (times t.left (triple_rows t.id t.length) (parts_left r))))
rows_in (at.TextLength r t) = number_row (bytes_of t.length) (λ _. None) (λ n. any n (times t.left (triple_rows t.id t.length) (parts_left r)))
rows_in (at.Text r t n) = any n (times t.left (triple_rows t.id t.length) (parts_left r))

-- the next field's rows, or none at the record's end
abbrev pub rows_from : Option InRecord → Rows Nothing
rows_from (Some r) = rows_in r
rows_from None = nothing

abbrev pub some_unless : Option FaultKind → ℕ → Option ℕ
some_unless None n = Some n
some_unless (Some kind) n = None

-- the sum of the counts where the rule for counts allows it
abbrev pub counted_with : List Part → ℕ → ℕ → Option ℕ
counted_with ps total counted = some_unless (count_rule ps total counted) counted

abbrev pub first_width_of : Part → ℕ
first_width_of (part.Plain field width) = bytes_of width
first_width_of (part.Total width) = bytes_of width
first_width_of (part.Pairs count id value) = bytes_of count
first_width_of (part.Triples count id len) = bytes_of count

-- the field's width
abbrev pub width_in : InRecord → ℕ
width_in (at.Part r p) = first_width_of p
width_in (at.Id r p) = bytes_of p.id
width_in (at.Value r p) = bytes_of p.value
width_in (at.TextId r t) = bytes_of t.id
width_in (at.TextLength r t) = bytes_of t.length
width_in (at.Text r t n) = n

-- the code goes over a field of no bytes only once in a row
abbrev pub weight_in : InRecord → ℕ
weight_in (at.Part r p) = 0
weight_in (at.Id r p) = 0
weight_in (at.Value r p) = 0
weight_in (at.TextId r t) = 0
weight_in (at.TextLength r t) = 0
weight_in (at.Text r t n) = 1

abbrev pub weight_from : Option InRecord → ℕ
weight_from (Some r) = weight_in r
weight_from None = 0

-- what the code answers to a field of the rows
abbrev pub FollowsIn : Rows Nothing → List ℕ → Result (Option InRecord) FaultKind → Type 0
FollowsIn rows field (Ok next) = (rule_of rows field ≡ None) × (rows_after rows field ≡ rows_from next)
FollowsIn rows field (Err kind) = rule_of rows field ≡ Some kind
