-- Fields from which layouts are made.
use Rattle.std.specs.Prelude.{ℕ, zero, suc, ◌+◌, ◌*◌, List, Bool, true, false, Option, Some, None, fold}
use Rattle.avl_values.specs.declared.fault.FaultKind.{FaultKind}
use Rattle.layout.specs.Rows.{Rows, done, refuse, row}

-- the number that bytes spell, the highest first
abbrev pub number : List ℕ → ℕ
number bytes = fold (λ n b. n * 256 + b) 0 bytes

-- the fault that a failed test is
abbrev pub fault_unless : Bool → FaultKind → Option FaultKind
fault_unless true kind = None
fault_unless false kind = Some kind

-- a field of any bytes
abbrev pub any : {V : Type 0} → ℕ → Rows V → Rows V
any width rest = row width (λ _. None) (λ _. rest)

-- a field with a number, which a rule may refuse and on which the later rows depend
abbrev pub number_row : {V : Type 0} → ℕ → (ℕ → Option FaultKind) → (ℕ → Rows V) → Rows V
number_row width rule rest = row width (λ field. rule (number field)) (λ field. rest (number field))

-- rows that stand N times
abbrev pub times : {V : Type 0} → ℕ → (Rows V → Rows V) → Rows V → Rows V
times zero rows rest = rest
times (suc n) rows rest = rows (times n rows rest)

-- rows, and then those that the first ones' value asks for
unfoldable pub followed_by : {V W : Type 0} → Rows V → (V → Rows W) → Rows W
followed_by (done v) after = after v
followed_by (refuse kind) after = refuse kind
followed_by (row width rule rest) after = row width rule (λ field. followed_by (rest field) after)
