-- What one `admit` may do, on plain data: the list after it, whether the shelf is down after it, which answers fit, and the
-- counts of faults.
use Rattle.std.specs.Prelude.{◌≡◌, ℕ, ◌≤◌, Bool, true, false, List, Result, Ok, Err}
use Rattle.avl_values.specs.Causes.{Rose}
use Rattle.avl_values.specs.Record.{Record}
use Rattle.shelf.specs.Archive.{StoredValue, admitted, ArePlaces}
use Rattle.shelf.specs.declared.receipt.Receipt.{Receipt}
use Rattle.shelf.specs.declared.receipt.AdmitFault.{AdmitFault}
use Rattle.shelf.specs.declared.receipt.AdmitFault.TheVariants.{Down, NoMemory, MediumFault}

-- a shelf as plain data: its record list, whether it is down, and its medium's count of faults
pub record Shelved : Type 0 where
  pub list : List StoredValue
  pub down : Bool
  pub faults : ℕ

-- the places of a receipt, or a refusal
abbrev pub Answer : Type 0
Answer = Result (List ℕ) AdmitFault

abbrev pub answer_of : Result Receipt AdmitFault → Answer
answer_of (Ok receipt) = Ok receipt.places.items
answer_of (Err fault) = Err fault

-- the list after a call
abbrev pub list_after : List StoredValue → ℕ → List Record → Answer → List StoredValue
list_after list imei records (Ok places) = admitted list imei records
list_after list imei records (Err fault) = list

-- whether the shelf is down after a call
abbrev pub down_after : Bool → Answer → Bool
down_after down (Ok places) = down
down_after down (Err (Down faults)) = down
down_after down (Err NoMemory) = down
down_after down (Err (MediumFault faults)) = true

-- Which answers may come. Down comes exactly where the shelf is down, unless memory was wanting.
abbrev pub Fits : List StoredValue → Bool → ℕ → List Record → Answer → Type 0
Fits list down imei records (Ok places) = (down ≡ false) × ArePlaces (admitted list imei records) imei records places
Fits list down imei records (Err (Down faults)) = down ≡ true
Fits list down imei records (Err NoMemory) = down ≡ false
Fits list down imei records (Err (MediumFault faults)) = down ≡ false

-- the count that an answer carries, and the counts before and after
abbrev pub Counts : ℕ → Answer → ℕ → Type 0
Counts before (Ok places) now = before ≤ now
Counts before (Err (Down faults)) now = (faults ≡ before) × (now ≡ before)
Counts before (Err NoMemory) now = now ≡ before
Counts before (Err (MediumFault faults)) now = (faults ≡ now) × (before ≤ now) × Rose before now

pub record Admits (old : Shelved) (imei : ℕ) (records : List Record) (answer : Answer) (new : Shelved) : Type 0 where
  pub list : new.list ≡ list_after old.list imei records answer
  pub down : new.down ≡ down_after old.down answer
  pub fits : Fits old.list old.down imei records answer
  pub counts : Counts old.faults answer new.faults
