-- The shelf that calls in a row leave.
use Rattle.std.specs.Prelude.{◌≡◌, ◌⊎◌, ℕ, ◌≤◌, true, List, [], ◌∷◌, Ok, Err}
use Rattle.avl_values.specs.Causes.{IsAbove}
use Rattle.shelf.specs.Admits.{Shelved, Answer}
use Rattle.shelf.specs.Calls.{Brought, replay, down_by, IsLegal}
use Rattle.shelf.specs.declared.receipt.AdmitFault.TheVariants.{Down, NoMemory, MediumFault}

-- Each item has it.
abbrev pub Each : {X : Type 0} → (X → Type 0) → List X → Type 0
Each P [] = Unit {0}
Each P (x ∷ xs) = P x × Each P xs

-- an item that is in a list
abbrev pub In : {X : Type 0} → List X → X → Type 0
In [] x = ⊥
In (y ∷ ys) x = (y ≡ x) ⊎ In ys x

-- places were given
abbrev pub HasPlaces : Answer → Type 0
HasPlaces (Ok places) = Unit {0}
HasPlaces (Err fault) = ⊥

-- a count that an answer carries is above the lower one, and at most the higher
abbrev pub IsCounted : ℕ → ℕ → Answer → Type 0
IsCounted low high (Ok places) = Unit {0}
IsCounted low high (Err (Down faults)) = IsAbove faults low × (faults ≤ high)
IsCounted low high (Err NoMemory) = Unit {0}
IsCounted low high (Err (MediumFault faults)) = IsAbove faults low × (faults ≤ high)

abbrev pub AreCounted : ℕ → ℕ → List Brought → Type 0
AreCounted low high [] = Unit {0}
AreCounted low high (b ∷ bs) = IsCounted low high b.answer × AreCounted low high bs

-- Each answer is one that a shelf which opened so may give there.
abbrev pub IsLegalFor : Shelved → List Brought → Type 0
IsLegalFor o log = IsLegal o.list o.down log

-- a shelf that opened as o, after these calls and no others
pub record StandsFor (o : Shelved) (log : List Brought) (s : Shelved) : Type 0 where
  pub list : s.list ≡ replay o.list log
  pub down : s.down ≡ down_by o.down log
  pub faults : o.faults ≤ s.faults
  pub fell : s.down ≡ true → IsAbove s.faults o.faults
  pub counts : AreCounted o.faults s.faults log
