-- What a place's calls say, over the rows that are left.
use Rattle.std.specs.Prelude.{◌≡◌, ◌<◌, ◌≤◌, ◌^◌, length, ℕ, zero, suc, List, Some, None, Result, Ok, Err}
use Rattle.avl_values.specs.declared.fault.FaultKind.{FaultKind}
use Rattle.layout.specs.Rows.{Rows, done}
use Rattle.layout.specs.Fields.{number}
use Rattle.layout.specs.Next.{width_of, rule_of, rows_after}
use Rattle.field_machine.specs.declared.left.Left.{Left}
use Rattle.field_machine.specs.declared.left.Left.TheVariants as left

-- what is left of the rows: a field of N bytes, or nothing of an item that says a value, of which the code says this
abbrev pub Leaves : {H V : Type 0} → (H → V → Type 0) → Left H → Rows V → Type 0
Leaves says (left.Field width) rows = width_of rows ≡ Some width
Leaves {V = V} says (left.Nothing head) rows = (v : V) × (rows ≡ done v) × says head v

-- the value is one of a field of this width, where the field is no longer than a number
abbrev pub FitsIn : {H : Type 0} → Left H → ℕ → Type 0
FitsIn (left.Field width) value = width ≤ 8 → value < 256 ^ width
FitsIn (left.Nothing head) value = Unit {0}

-- the value is that of the field, where the field is no longer than a number
abbrev pub Reads : List ℕ → ℕ → Type 0
Reads field value = length field ≤ 8 → number field ≡ value

-- what the code answers to a field of the rows
abbrev pub Follows : {C V : Type 0} → (C → Rows V → Type 0) → Rows V → List ℕ → Result C FaultKind → Type 0
Follows stands rows field (Ok next) = (rule_of rows field ≡ None) × stands next (rows_after rows field)
Follows stands rows field (Err kind) = rule_of rows field ≡ Some kind

-- the code goes over a field of no bytes only once in a row
abbrev pub turns : {H : Type 0} → Left H → ℕ
turns (left.Field zero) = 1
turns (left.Field (suc width)) = 0
turns (left.Nothing head) = 0
