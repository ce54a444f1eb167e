-- Where a machine stands that takes an item down byte by byte.
use Rattle.std.specs.Prelude.{◌≡◌, ℕ, Bool, true, false, List, [], ◌++◌, length}
use Rattle.layout.specs.Fields.{number}
use Rattle.layout.specs.Rows.{whole, fault}
use Rattle.command_layout.specs.declared.way.Way.TheVariants.{Down}
use Rattle.frame_layout.specs.DownRows.{down_verdict}
use Rattle.frame_layout.specs.Values.{answer, count, order}
use Rattle.field_machine.specs.Machines as count_machine
use Rattle.field_machine.specs.declared.machine.Machine.{Machine}
use Rattle.frame_channel.specs.CountPlaces.{StandsInCount, count_left, four_rows}
use Rattle.frame_channel.specs.FrameMachines as frame_machine
use Rattle.frame_channel.specs.declared.down_machine.DownMachine.{DownMachine}
use Rattle.frame_channel.specs.declared.down_machine.DownMachine.TheVariants as machine
use Rattle.frame_channel.specs.declared.down_machine.DownStep.{DownStep}
use Rattle.frame_channel.specs.declared.down_machine.DownStep.TheVariants as step
use Rattle.frame_channel.specs.declared.count_place.CountPlace.{CountPlace}
use Rattle.frame_channel.specs.declared.frame_machine.FrameMachine.{FrameMachine}

-- in the first four bytes
abbrev pub InCount : Machine CountPlace → List ℕ → Type 0
InCount m bytes = count_machine.HasTaken count_left StandsInCount m 4 four_rows bytes

-- after four zero bytes
pub record InFrame (m : FrameMachine) (bytes : List ℕ) : Type 0 where
  pub zeros : List ℕ
  pub more : List ℕ
  pub is : bytes ≡ zeros ++ more
  pub four : length zeros ≡ 4
  pub zero : number zeros ≡ 0
  pub has : frame_machine.HasTaken m Down bytes

-- the machine has taken these bytes of an item, and no field of them failed
abbrev pub HasTaken : DownMachine → Bool → List ℕ → Type 0
HasTaken machine.Answer after_answer bytes = (after_answer ≡ false) × (bytes ≡ [])
HasTaken (machine.Count m) after_answer bytes = (after_answer ≡ true) × InCount m bytes
HasTaken (machine.Frame m) after_answer bytes = (after_answer ≡ true) × InFrame m bytes

-- the machine has taken some bytes
pub record IsTaking (m : DownMachine) : Type 0 where
  pub after_answer : Bool
  pub bytes : List ℕ
  pub has : HasTaken m after_answer bytes

-- the answer is the verdict on all the bytes, and while that is short the machine goes on from them
abbrev pub Answers : DownMachine → Bool → List ℕ → DownStep → Type 0
Answers m after_answer bytes step.More = HasTaken m after_answer bytes
Answers m after_answer bytes (step.Answer n) = down_verdict after_answer bytes ≡ whole (answer n) (length bytes)
Answers m after_answer bytes (step.Count n) = down_verdict after_answer bytes ≡ whole (count n) (length bytes)
Answers m after_answer bytes step.Order = (body : List ℕ) × (down_verdict after_answer bytes ≡ whole (order body) (length bytes))
Answers m after_answer bytes (step.Broken found) = down_verdict after_answer bytes ≡ fault found.kind found.place
