-- Items as rows of fields, and the verdict on bytes: the whole item, too few bytes, or the first row whose rule fails (this
-- project's own).
use Rattle.std.specs.Prelude.{◌≡◌, ℕ, ◌+◌, ◌-◌, List, [], ◌++◌, length, take, drop, Option, Some, None, nat_lt, ◌==◌, if◌then◌else◌}
use Rattle.avl_values.specs.declared.fault.FaultKind.{FaultKind}
use Rattle.avl_values.specs.declared.fault.FaultKind.TheVariants.{Overrun, Excess}

-- What an item is from here on: nothing more, and the item says this value; a rule that fails before any further byte;
-- or a field of N bytes, with a rule that its bytes may break, and what comes after these bytes.
pub data Rows (V : Type 0) : Type 0 where
  done : V → Rows V
  refuse : FaultKind → Rows V
  row : ℕ → (List ℕ → Option FaultKind) → (List ℕ → Rows V) → Rows V

-- the whole item, which says this value and ends before this place; too few bytes; or a fault, with the place of its
-- field's first byte
pub data Verdict (V : Type 0) : Type 0 where
  whole : V → ℕ → Verdict V
  short : Verdict V
  fault : FaultKind → ℕ → Verdict V

abbrev pub unless_fault : {V : Type 0} → Option FaultKind → ℕ → Verdict V → Verdict V
unless_fault None place v = v
unless_fault (Some kind) place v = fault kind place

-- The verdict on the bytes from a place on. A field is judged once all its bytes are there.
unfoldable pub judge : {V : Type 0} → Rows V → ℕ → List ℕ → Verdict V
judge (done v) place bytes = whole v place
judge (refuse kind) place bytes = fault kind place
judge (row width rule rest) place bytes =
    if nat_lt (length bytes) width then short
    else unless_fault (rule (take width bytes)) place (judge (rest (take width bytes)) (place + width) (drop width bytes))

-- The bytes are exactly the fields of these rows, no rule fails, and they say this value.
unfoldable pub Fills : {V : Type 0} → Rows V → V → List ℕ → Type 0
Fills (done w) v bytes = (w ≡ v) × (bytes ≡ [])
Fills (refuse kind) v bytes = ⊥
Fills (row width rule rest) v bytes =
    (field : List ℕ) × (more : List ℕ) × (bytes ≡ field ++ more) × (length field ≡ width) × (rule field ≡ None) × Fills (rest field) v more

-- The rows as a body of N bytes, and what comes after it. A field that would pass the body's end is an overrun. Where
-- the rows end the body ends.
unfoldable pub within : {V W : Type 0} → ℕ → Rows V → (V → Rows W) → Rows W
within room (done v) after = if room == 0 then after v else refuse Excess
within room (refuse kind) after = refuse kind
within room (row width rule rest) after =
    if nat_lt room width then refuse Overrun
    else row width rule (λ field. within (room - width) (rest field) after)

-- a body of N bytes, and nothing after it
abbrev pub body : {V : Type 0} → ℕ → Rows V → Rows V
body room rows = within room rows (λ v. done v)
