-- Where a machine stands that takes an item's bytes one at a time.
use Rattle.std.specs.Prelude.{◌≡◌, ℕ, ◌+◌, ◌-◌, ◌<◌, ◌≤◌, ◌^◌, List, ◌++◌, length, Result, Ok, Err}
use Rattle.layout.specs.Rows.{Rows, judge, body}
use Rattle.layout.specs.Fields.{number}
use Rattle.field_machine.specs.declared.left.Left.{Left}
use Rattle.field_machine.specs.declared.left.Left.TheVariants as left
use Rattle.field_machine.specs.declared.machine.Machine.{Machine}
use Rattle.field_machine.specs.declared.verdict.Scan.{Scan}
use Rattle.field_machine.specs.declared.verdict.Scan.TheVariants.{More, Whole, Broken}
use Rattle.field_machine.specs.Verdicts.{IsVerdict}

-- how many bytes the machine has taken
abbrev pub taken_of : {C : Type 0} → Machine C → ℕ
taken_of m = m.taken

-- a body of `total` bytes that begins with a field of some bytes
abbrev pub Begins : {H : Type 0} → Left H → ℕ → Type 0
Begins (left.Field width) total = (0 < width) × (width ≤ total)
Begins (left.Nothing head) total = ⊥

-- The machine has taken these bytes of a body of `total` bytes that these rows judge, and no field of them failed: they are some
-- whole fields and a part of one that still lacks bytes.
pub record HasTaken {C H V : Type 0} (left_of : C → Left H) (stands : C → Rows V → Type 0) (m : Machine C) (total : ℕ) (rows : Rows V) (bytes : List ℕ) : Type 0 where
  pub fields : List ℕ
  pub part : List ℕ
  pub here : Rows V
  pub is : bytes ≡ fields ++ part
  pub of_total : m.total ≡ total
  pub start : m.start ≡ length fields
  pub taken : m.taken ≡ length fields + length part
  pub at : stands m.cursor here
  pub width : left_of m.cursor ≡ left.Field (length part + m.missing)
  pub lacks : 0 < m.missing
  pub room : m.start + (length part + m.missing) ≤ m.total
  pub value : length part + m.missing ≤ 8 → (m.value ≡ number part) × (m.value < 256 ^ length part)
  pub judged : (more : List ℕ) → judge (body total rows) 0 (fields ++ more) ≡ judge (body (total - m.start) here) m.start more

-- the machine has taken some bytes, and every answer so far was More
pub record IsTaking {C H V : Type 0} (left_of : C → Left H) (stands : C → Rows V → Type 0) (m : Machine C) : Type 0 where
  pub total : ℕ
  pub rows : Rows V
  pub bytes : List ℕ
  pub has : HasTaken left_of stands m total rows bytes

-- while the answer is More the machine goes on from the bytes
abbrev pub GoesOn : {C H V : Type 0} → (C → Left H) → (C → Rows V → Type 0) → Machine C → ℕ → Rows V → List ℕ → Scan H → Type 0
GoesOn left_of stands m total rows bytes More = HasTaken left_of stands m total rows bytes
GoesOn left_of stands m total rows bytes (Whole head) = Unit {0}
GoesOn left_of stands m total rows bytes (Broken found) = Unit {0}

-- a machine at the first byte of a field
pub record StandsAt {C H : Type 0} (left_of : C → Left H) (m : Machine C) (total place : ℕ) : Type 0 where
  pub of_total : m.total ≡ total
  pub start : m.start ≡ place
  pub taken : m.taken ≡ place
  pub value : m.value ≡ 0
  pub width : left_of m.cursor ≡ left.Field m.missing
  pub lacks : 0 < m.missing
  pub room : place + m.missing ≤ total

-- an answer other than More
abbrev pub HasCome : {H : Type 0} → Scan H → Type 0
HasCome More = ⊥
HasCome (Whole head) = Unit {0}
HasCome (Broken found) = Unit {0}

-- the verdict from a place on is that of a machine at a field, or has come
abbrev pub Enters : {C H V : Type 0} → (C → Left H) → (H → V → Type 0) → (C → Rows V → Type 0) → ℕ → ℕ → C → Result (Machine C) (Scan H) → Type 0
Enters {V = V} left_of says stands total place cursor (Ok m) =
    StandsAt left_of m total place
    × ((here : Rows V) → stands cursor here → (on : Rows V) × stands m.cursor on × ((more : List ℕ) → judge (body (total - place) here) place more ≡ judge (body (total - place) on) place more))
Enters {V = V} left_of says stands total place cursor (Err scan) = HasCome scan × ((here : Rows V) (more : List ℕ) → stands cursor here → IsVerdict says total scan (judge (body (total - place) here) place more))
