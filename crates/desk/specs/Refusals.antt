-- When a desk's call is refused, by the history.
use Rattle.std.specs.Prelude.{◌⊎◌, ℕ, List, [], ◌∷◌, Result, Ok, Err}
use Rattle.avl_values.specs.Causes.{IsAbove}
use Rattle.shelf.specs.Admits.{Answer}
use Rattle.shelf.specs.Entries.{Entry}
use Rattle.shelf.specs.Histories.{Each}
use Rattle.shelf.specs.Shelf.{IsMediumFault}
use Rattle.shelf.specs.declared.receipt.Receipt.{Receipt}
use Rattle.shelf.specs.declared.receipt.AdmitFault.{AdmitFault}
use Rattle.shelf.specs.declared.receipt.AdmitFault.TheVariants.{Down, NoMemory, MediumFault}

-- a call returned MediumFault
abbrev pub HasFault : List Entry → Type 0
HasFault [] = ⊥
HasFault (e ∷ log) = IsMediumFault e.brought.answer ⊎ HasFault log

-- the calls before the last
abbrev pub before_last : List Entry → List Entry
before_last [] = []
before_last (e ∷ []) = []
before_last (e ∷ f ∷ log) = e ∷ before_last (f ∷ log)

abbrev pub IsDown : Result Receipt AdmitFault → Type 0
IsDown (Ok receipt) = ⊥
IsDown (Err (Down faults)) = Unit {0}
IsDown (Err NoMemory) = ⊥
IsDown (Err (MediumFault faults)) = ⊥

-- a count that the answer carries is above this one
abbrev pub CarriesAbove : ℕ → Result Receipt AdmitFault → Type 0
CarriesAbove low (Ok receipt) = Unit {0}
CarriesAbove low (Err (Down faults)) = IsAbove faults low
CarriesAbove low (Err NoMemory) = Unit {0}
CarriesAbove low (Err (MediumFault faults)) = IsAbove faults low

-- an answer that tells of no failure of the medium
abbrev pub TellsNoFault : Answer → Type 0
TellsNoFault (Ok places) = Unit {0}
TellsNoFault (Err (Down faults)) = ⊥
TellsNoFault (Err NoMemory) = Unit {0}
TellsNoFault (Err (MediumFault faults)) = ⊥

-- no call of the history was told of a failure
abbrev pub AllFaultless : List Entry → Type 0
AllFaultless log = Each (λ (e : Entry). TellsNoFault e.brought.answer) log
