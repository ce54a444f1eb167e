-- The calls of `admit` that a session makes.
use Rattle.std.specs.Prelude.{◌≡◌, ℕ, ◌+◌, false, List, [], ◌∷◌, ◌++◌, length, map, Some, Err}
use Rattle.avl_values.specs.Record.{Record}
use Rattle.record_layout.specs.RecordsOf.{records_of}
use Rattle.frame_layout.specs.Readings.{packets_of, up_reading}
use Rattle.shelf.specs.Admits.{Answer}
use Rattle.shelf.specs.Calls.{AreStored, Brought, Call, Mark}
use Rattle.shelf.specs.Histories.{Each, HasPlaces}
use Rattle.shelf.specs.declared.receipt.AdmitFault.{AdmitFault}
use Rattle.shelf.specs.declared.receipt.AdmitFault.TheVariants as refused
use Rattle.session_core.specs.declared.served.Served.{Served}
use Rattle.session_core.specs.declared.served.SessionEnd.{SessionEnd}
use Rattle.session_core.specs.declared.served.SessionEnd.TheVariants.{Ended, EndedInside, LinkFault, Broken, Unknown, MediumFault, Down, LongEnough, NoMemory}

-- one call, with such an answer
abbrev pub IsOne : (Answer → Type 0) → List Brought → Type 0
IsOne P [] = ⊥
IsOne P (b ∷ []) = P b.answer
IsOne P (b ∷ c ∷ bs) = ⊥

abbrev pub IsOneOrNone : (Answer → Type 0) → List Brought → Type 0
IsOneOrNone P [] = Unit {0}
IsOneOrNone P (b ∷ bs) = IsOne P (b ∷ bs)

abbrev pub IsRefusedBy : AdmitFault → Answer → Type 0
IsRefusedBy fault answer = answer ≡ Err fault

-- what may come after the calls whose packets were counted
abbrev pub MayFollow : SessionEnd → List Brought → Type 0
MayFollow Ended more = more ≡ []
MayFollow (EndedInside have) more = more ≡ []
MayFollow (LongEnough taken) more = more ≡ []
MayFollow (Broken found) more = more ≡ []
MayFollow (Unknown imei) more = more ≡ []
MayFollow LinkFault more = IsOneOrNone HasPlaces more
MayFollow (MediumFault faults) more = IsOne (IsRefusedBy (refused.MediumFault faults)) more
MayFollow (Down faults) more = IsOne (IsRefusedBy (refused.Down faults)) more
MayFollow NoMemory more = IsOneOrNone (IsRefusedBy refused.NoMemory) more

-- how many records calls brought
abbrev pub records_brought : List Brought → ℕ
records_brought [] = 0
records_brought (b ∷ bs) = length b.records + records_brought bs

-- These are the calls of one session, which took these bytes from its link: one for each packet that was counted, with places, and
-- perhaps one more, by the session's end. Each is of the session's device, under the mark, and brings the records of the data
-- frame that stands where it stands.
pub record AreCallsOf (served : Served) (mark : Mark) (taken : List ℕ) (calls : List Brought) : Type 0 where
  pub counted : List Brought
  pub more : List Brought
  pub are : calls ≡ counted ++ more
  pub device : Each (λ b. served.imei ≡ Some b.imei) calls
  pub marked : Each (λ b. b.mark ≡ mark) calls
  pub frames : served.frames ≡ length counted
  pub records : served.records ≡ records_brought counted
  pub stored : Each (λ b. HasPlaces b.answer) counted
  pub follows : MayFollow served.end more
  pub others : List (List Record)
  pub bodies : map records_of (packets_of (up_reading false taken).items) ≡ map (λ b. b.records) calls ++ others

-- the bodies of packets
abbrev pub bodies_of : List (ℕ × List ℕ) → List (List ℕ)
bodies_of packets = map (λ p. p.1) packets

-- Each packet that was counted, a device and a body, has a receipt of this very body, and these are the first data frames.
pub record HaveReceipts (served : Served) (taken : List ℕ) (calls : List Call) : Type 0 where
  pub packets : List (ℕ × List ℕ)
  pub first : List Call
  pub last : List Call
  pub are : calls ≡ first ++ last
  pub stored : AreStored packets first
  pub frames : served.frames ≡ length packets
  pub others : List (List ℕ)
  pub bodies : packets_of (up_reading false taken).items ≡ bodies_of packets ++ others
