-- What is done for one item, and for a piece.
use Rattle.std.specs.Prelude.{◌≡◌, ℕ, ◌<◌, Bool, true, false, List, [], length, take, Option, Some, None, Result}
use Rattle.command_layout.specs.Values.{CommandValue}
use Rattle.links.specs.Links.{LinkState, Moves, Traffic}
use Rattle.frame_layout.specs.Values.{login}
use Rattle.shelf.specs.declared.receipt.AdmitFault.{AdmitFault}
use Rattle.shelf.specs.declared.receipt.Receipt.{Receipt}
use Rattle.session_core.specs.declared.served.SessionEnd.{SessionEnd}
use Rattle.session_core.specs.declared.served.SessionEnd.TheVariants as ends
use Rattle.session_core.specs.declared.work.Tally.{Tally}
use Rattle.session_core.specs.Doings.{Doing, EndsIn, Goes}
use Rattle.session_core.specs.Sessions.{IsReady, SessionState}
use Rattle.session_core.specs.Talks.{Meaning, Talk, nobody, reply}

abbrev pub meaning : {O : Type 0} → (O → ℕ → Option (List ℕ)) → (O → ℕ → O) → (O → ℕ → CommandValue → O) → Meaning O
meaning gives asked told = record { gives = gives; asked = asked; told = told }

abbrev pub doing : {S O : Type 0} → Talk O → S → LinkState → Tally → Doing S O
doing talk shelf link tally = record { talk = talk; shelf = shelf; wire = link.told; frames = tally.frames; records = tally.records }

-- a login was answered: accepted, refused, or cut
abbrev pub Greets : {O : Type 0} → Meaning O → (ℕ → Bool) → ℕ → O → Option Traffic → Option SessionEnd → O → Option Traffic → Type 0
Greets m known imei o w None p v = Moves [] (reply m known (nobody o) (login imei)) w v × (p ≡ m.asked o imei) × (known imei ≡ true)
Greets m known imei o w (Some ends.LinkFault) p v = (part : ℕ) × (part < length (reply m known (nobody o) (login imei))) × Moves [] (take part (reply m known (nobody o) (login imei))) w v
Greets m known imei o w (Some (ends.Unknown who)) p v = Moves [] (reply m known (nobody o) (login imei)) w v × (p ≡ o) × (known imei ≡ false) × (who ≡ imei)
Greets m known imei o w (Some ends.Ended) p v = ⊥
Greets m known imei o w (Some (ends.EndedInside n)) p v = ⊥
Greets m known imei o w (Some (ends.Broken found)) p v = ⊥
Greets m known imei o w (Some (ends.MediumFault n)) p v = ⊥
Greets m known imei o w (Some (ends.Down n)) p v = ⊥
Greets m known imei o w (Some (ends.LongEnough n)) p v = ⊥
Greets m known imei o w (Some ends.NoMemory) p v = ⊥

-- a piece was heard, and all was done that it wants, or the session ended
abbrev pub Took : {S O : Type 0} → (S → ℕ → List ℕ → Result Receipt AdmitFault → S → Type 0) → Meaning O → (ℕ → Bool) → Option SessionEnd → List ℕ → SessionState → SessionState → Doing S O → Doing S O → Type 0
Took leaves m known None bytes old new x y = IsReady new × Goes leaves m known bytes [] old.reader new.reader x y
Took leaves m known (Some end) bytes old new x y = EndsIn leaves m known end bytes [] old.reader x y
