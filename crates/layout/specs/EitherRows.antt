-- Rows of which either may be, by their first field (this project's own).
use Rattle.std.specs.Prelude.{Option, Some, None}
use Rattle.avl_values.specs.declared.fault.FaultKind.{FaultKind}
use Rattle.layout.specs.Rows.{Rows, done, refuse, row}
use Rattle.layout.specs.Next.{rule_of, rows_after}

-- a field breaks the rule of either rows where it breaks both rules
abbrev pub either_rule : Option FaultKind → Option FaultKind → Option FaultKind
either_rule None other = None
either_rule (Some kind) other = other

-- what follows it: the first rows' rest where it keeps their rule, else that of the others
abbrev pub either_rest : {V : Type 0} → Option FaultKind → Rows V → Rows V → Rows V
either_rest None rest other = rest
either_rest (Some kind) rest other = other

-- the first rows, or the others where the first field breaks the first ones' rule; both begin with a field of one width
unfoldable pub either_rows : {V : Type 0} → Rows V → Rows V → Rows V
either_rows (done v) others = done v
either_rows (refuse kind) others = others
either_rows (row width rule rest) others =
    row width (λ field. either_rule (rule field) (rule_of others field)) (λ field. either_rest (rule field) (rest field) (rows_after others field))
