-- How a session ends, over the bytes that it took.
use Rattle.std.specs.Prelude.{◌≡◌, ◌⊎◌, ℕ, ◌<◌, ◌^◌, Bool, true, false, List, [], length, Option, Result, IfSome}
use Rattle.item_streams.specs.Readers.{Reader}
use Rattle.links.specs.Links.{LinkState, Traffic}
use Rattle.shelf.specs.declared.receipt.AdmitFault.{AdmitFault}
use Rattle.shelf.specs.declared.receipt.Receipt.{Receipt}
use Rattle.session_core.specs.declared.served.SessionEnd.{SessionEnd}
use Rattle.session_core.specs.declared.served.SessionEnd.TheVariants as ends
use Rattle.session_core.specs.Doings.{Doing, Goes, Stops, Breaks}
use Rattle.session_core.specs.Talks.{Meaning, nobody, is_stranger}

-- the link is at its end, where it tells its bytes
abbrev pub IsAtEnd : LinkState → Type 0
IsAtEnd link = IfSome link.told (λ _. link.ended ≡ true)

-- before the first byte
abbrev pub start : {S O : Type 0} → O → S → Option Traffic → Doing S O
start o s wire = record { talk = nobody o; shelf = s; wire = wire; frames = 0; records = 0 }

module _ {S O : Type 0} (leaves : S → ℕ → List ℕ → Result Receipt AdmitFault → S → Type 0) (m : Meaning O) (known : ℕ → Bool) where
  -- All was done for the bytes taken, but for less than an item.
  pub record DoesAll (bytes : List ℕ) (old new : Reader) (x y : Doing S O) : Type 0 where
    pub goes : Goes leaves m known bytes bytes old new x y
    pub going : new.failed ≡ false
    pub welcome : is_stranger y.talk ≡ false

  abbrev pub Ends : SessionEnd → List ℕ → LinkState → Reader → Reader → Doing S O → Doing S O → Type 0
  Ends ends.Ended bytes link old new x y = DoesAll bytes old new x y × (new.have ≡ []) × IsAtEnd link × (length bytes < 2 ^ 30)
  Ends (ends.EndedInside n) bytes link old new x y = DoesAll bytes old new x y × (n ≡ length new.have) × (0 < n) × IsAtEnd link × (length bytes < 2 ^ 30)
  Ends (ends.LongEnough n) bytes link old new x y = DoesAll bytes old new x y × (n ≡ 2 ^ 30) × (length bytes ≡ 2 ^ 30)
  Ends ends.LinkFault bytes link old new x y = (DoesAll bytes old new x y × (length bytes < 2 ^ 30)) ⊎ Stops leaves m known ends.LinkFault bytes bytes old x y
  Ends (ends.Broken found) bytes link old new x y = Breaks leaves m known found bytes bytes old x y
  Ends (ends.Unknown imei) bytes link old new x y = Stops leaves m known (ends.Unknown imei) bytes bytes old x y
  Ends (ends.MediumFault n) bytes link old new x y = Stops leaves m known (ends.MediumFault n) bytes bytes old x y
  Ends (ends.Down n) bytes link old new x y = Stops leaves m known (ends.Down n) bytes bytes old x y
  Ends ends.NoMemory bytes link old new x y = Stops leaves m known ends.NoMemory bytes bytes old x y
