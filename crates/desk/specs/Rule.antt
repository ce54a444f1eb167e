-- What holds of the desk between any two steps: over its two words, its slot, and what each seat knows.
use Rattle.std.specs.Prelude.{◌≡◌, ◌≢◌, ℕ, ◌+◌, ◌%◌, ◌^◌, ◌<◌, ◌≤◌, List, [], ◌∷◌, length, Option, Some}
use mathlib.Core.Option as slot
use mathlib.Core.Option.{some}
use lib.ListN.{get_elem?}
use Rattle.atomic_table.specs.Table.{State}
use Rattle.shelf.specs.Admits.{Shelved}
use Rattle.shelf.specs.Entries.{Entry, IsLegalLog, StandsAfter, StartsWith, times}
use Rattle.shelf.specs.Shelf.{ShelfView, front}
use Rattle.desk.specs.Views.{Stage, View, total, busy, share, has}
use Rattle.desk.specs.Views.Stage.{Idle, Waiting, Holding}

-- The history begins with what was seen, and none of the later calls is under these numbers.
pub record Knows (log seen : List Entry) (ns : List ℕ) : Type 0 where
  pub begins : StartsWith log seen
  pub quiet : (k : ℕ) (e : Entry) → length seen ≤ k → get_elem? log k ≡ some e → times e.seat ns ≡ 0

-- The tickets that are out are those from the history's length on, as many as there are seats with one. Who holds the shelf has
-- the first of them, and has seen all.
abbrev pub FitsStage : List Entry → ℕ → List Entry → ℕ → Stage → Type 0
FitsStage log tickets seen ticket Idle = Unit {0}
FitsStage log tickets seen ticket Waiting = (length log ≤ ticket) × (ticket < length log + tickets)
FitsStage log tickets seen ticket Holding = (ticket ≡ length log) × (seen ≡ log)

-- what holds of each view
pub record FitsView (o : Shelved) (log : List Entry) (tickets : ℕ) (v : View) : Type 0 where
  pub opening : 0 < share v → v.opening ≡ o
  pub mine : Knows log v.seen v.numbers
  pub others : Knows log v.other_seen v.other_numbers
  pub enough : busy v ≤ share v
  pub stage : FitsStage log tickets v.seen v.ticket v.stage

abbrev pub NobodyHolds : List View → Type 0
NobodyHolds views = (i : ℕ) (v : View) → get_elem? views i ≡ some v → v.stage ≢ Holding

-- No two seats have the same ticket.
abbrev pub TicketsDiffer : List View → Type 0
TicketsDiffer views = (i j : ℕ) (v w : View) → get_elem? views i ≡ some v → get_elem? views j ≡ some w → i ≢ j → busy v ≡ 1 → busy w ≡ 1 → v.ticket ≢ w.ticket

-- the shelf is in the slot, as the history left it
pub record IsAtHome (o : Shelved) (log : List Entry) (homes : List (slot.Option (Option ShelfView))) : Type 0 where
  pub shelf : ShelfView
  pub there : homes ≡ some (Some shelf) ∷ []
  pub stands : StandsAfter o log (front shelf)

-- There is one legal history, and its calls are those of the seats. The words are `serving`, its length, and `ticket`, which is
-- ahead by the tickets that are out. Each number is one seat's, and while nobody holds the shelf, it is in the slot.
pub record HasHistory (o : Shelved) (seats : ℕ) (s : State (Option ShelfView) View) : Type 0 where
  pub log : List Entry
  pub legal : IsLegalLog o log
  pub words : s.words ≡ (length log % 2 ^ 64) ∷ ((length log + total busy s.views) % 2 ^ 64) ∷ []
  pub many : total share s.views ≡ seats
  pub few : seats ≤ 64
  pub once : (n : ℕ) → total (has n) s.views ≤ 1
  pub owned : (k : ℕ) (e : Entry) → get_elem? log k ≡ some e → 0 < total (has e.seat) s.views
  pub each : (i : ℕ) (v : View) → get_elem? s.views i ≡ some v → FitsView o log (total busy s.views) v
  pub apart : TicketsDiffer s.views
  pub home : NobodyHolds s.views → IsAtHome o log s.homes
