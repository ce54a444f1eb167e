-- A machine inside an item: in a part of it that has a known length, after some whole fields and before what follows the part.
use Rattle.std.specs.Prelude.{◌≡◌, ℕ, List, [], ◌++◌, length}
use Rattle.layout.specs.Nested.{with_bytes}
use Rattle.layout.specs.Rows.{Rows, judge, within}
use Rattle.field_machine.specs.Machines.{HasTaken}
use Rattle.field_machine.specs.declared.left.Left.{Left}
use Rattle.field_machine.specs.declared.machine.Machine.{Machine}

-- after some whole fields of an item these of its rows are left
pub record LeftAfter {W : Type 0} (all : Rows W) (fields : List ℕ) (rows : Rows W) : Type 0 where
  pub judged : (more : List ℕ) → judge all 0 (fields ++ more) ≡ judge rows (length fields) more

-- The bytes so far are some whole fields of the item, and then those that the machine has taken of a part of `total` bytes, which
-- begins at `start`. What follows the part depends on what the part says, and on its bytes.
pub record InPart {C H V W : Type 0} (left_of : C → Left H) (stands : C → Rows V → Type 0) (all : Rows W) (rows : Rows V) (after : V × List ℕ → Rows W) (m : Machine C) (start total : ℕ) (bytes : List ℕ) : Type 0 where
  pub before : List ℕ
  pub taken : List ℕ
  pub is : bytes ≡ before ++ taken
  pub begins : start ≡ length before
  pub left : LeftAfter all before (within total (with_bytes [] rows) after)
  pub has : HasTaken left_of stands m total rows taken
