-- Calls of `admit` in a row: what they leave, and what a history of them makes of a list.
use Rattle.std.specs.Prelude.{◌≡◌, ℕ, Bool, List, [], ◌∷◌, ◌++◌, Option, Some, None, Result, Ok, Err}
use Rattle.avl_values.specs.Record.{Record}
use Rattle.record_layout.specs.RecordsOf.{records_of, count_of}
use Rattle.shelf.specs.Archive.{StoredValue}
use Rattle.shelf.specs.Admits.{Answer, answer_of, list_after, down_after, Fits}
use Rattle.shelf.specs.declared.receipt.Receipt.{Receipt}
use Rattle.shelf.specs.declared.receipt.AdmitFault.{AdmitFault}

-- a call: for which device, with which body, and what it answered
pub record Call : Type 0 where
  pub imei : ℕ
  pub body : List ℕ
  pub result : Result Receipt AdmitFault

-- These calls, one after the other, lead from one state to another, by what one call leaves.
abbrev pub Feeds : {S : Type 0} → (S → ℕ → List ℕ → Result Receipt AdmitFault → S → Type 0) → S → List Call → S → Type 0
Feeds leaves s [] t = s ≡ t
Feeds {S = S} leaves s (c ∷ cs) t = (next : S) × leaves s c.imei c.body c.result next × Feeds leaves next cs t

-- a receipt that counts this body's records
abbrev pub IsReceiptOf : List ℕ → Result Receipt AdmitFault → Type 0
IsReceiptOf body (Ok receipt) = receipt.count ≡ count_of body
IsReceiptOf body (Err fault) = ⊥

-- One call for each of these packets, each a device and a body, in their order, with receipts.
abbrev pub AreStored : List (ℕ × List ℕ) → List Call → Type 0
AreStored [] [] = Unit {0}
AreStored [] (c ∷ cs) = ⊥
AreStored (p ∷ ps) [] = ⊥
AreStored (p ∷ ps) (c ∷ cs) = (c.imei ≡ p.0) × (c.body ≡ p.1) × IsReceiptOf p.1 c.result × AreStored ps cs

-- what who admits puts on its calls: two numbers
abbrev pub Mark : Type 0
Mark = ℕ × ℕ

abbrev pub no_mark : Mark
no_mark = (0, 0)

-- what one call brought: a device's records, the answer, and the mark of who admitted them
pub record Brought : Type 0 where
  pub imei : ℕ
  pub records : List Record
  pub answer : Answer
  pub mark : Mark

-- what a call with this device, body and answer brought
abbrev pub brought_by : Mark → ℕ → List ℕ → Result Receipt AdmitFault → Brought
brought_by mark imei body result = record { imei = imei; records = records_of body; answer = answer_of result; mark = mark }

abbrev pub brought : Mark → Call → Brought
brought mark c = brought_by mark c.imei c.body c.result

-- the calls that are told, with more after them; where none are told, none
abbrev pub with_calls : List Brought → Option (List Brought) → Option (List Brought)
with_calls more None = None
with_calls more (Some told) = Some (told ++ more)

-- A call puts itself after those that are told, under the mark, which stays.
pub record TellsCall (imei : ℕ) (body : List ℕ) (result : Result Receipt AdmitFault) (mark now : Mark) (told told_now : Option (List Brought)) : Type 0 where
  pub same : now ≡ mark
  pub added : told_now ≡ with_calls (brought_by mark imei body result ∷ []) told

-- the list after calls in a row
abbrev pub replay : List StoredValue → List Brought → List StoredValue
replay list [] = list
replay list (b ∷ bs) = replay (list_after list b.imei b.records b.answer) bs

-- whether the shelf is down after them
abbrev pub down_by : Bool → List Brought → Bool
down_by down [] = down
down_by down (b ∷ bs) = down_by (down_after down b.answer) bs

-- Each answer is one that a shelf may give there.
abbrev pub IsLegal : List StoredValue → Bool → List Brought → Type 0
IsLegal list down [] = Unit {0}
IsLegal list down (b ∷ bs) = Fits list down b.imei b.records b.answer × IsLegal (list_after list b.imei b.records b.answer) (down_after down b.answer) bs
