-- The next row of some rows, for code that goes over them field by field.
use Rattle.std.specs.Prelude.{ℕ, List, Option, Some, None}
use Rattle.avl_values.specs.declared.fault.FaultKind.{FaultKind}
use Rattle.layout.specs.Rows.{Rows, done, refuse, row}

abbrev pub width_of : {V : Type 0} → Rows V → Option ℕ
width_of (done v) = None
width_of (refuse kind) = None
width_of (row width rule rest) = Some width

abbrev pub rule_of : {V : Type 0} → Rows V → List ℕ → Option FaultKind
rule_of (done v) field = None
rule_of (refuse kind) field = Some kind
rule_of (row width rule rest) field = rule field

abbrev pub rows_after : {V : Type 0} → Rows V → List ℕ → Rows V
rows_after (done v) field = done v
rows_after (refuse kind) field = refuse kind
rows_after (row width rule rest) field = rest field
