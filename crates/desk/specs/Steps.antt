-- What each kind of step tells the seat that makes it.
use Rattle.std.specs.Prelude.{◌≡◌, ◌≢◌, ℕ, ◌%◌, ◌^◌, [], ◌∷◌, ◌++◌, Option, Some, Err}
use Rattle.atomic_table.specs.Table.{Me, rest}
use Rattle.shelf.specs.Calls.{no_mark}
use Rattle.shelf.specs.Entries.{Entry, entry, IsLegalLog, StandsAfter, StartsWith, calls_by}
use Rattle.shelf.specs.Shelf.{ShelfView, front}
use Rattle.shelf.specs.declared.receipt.AdmitFault.TheVariants.{NoMemory}
use Rattle.desk.specs.Seen.{AreJoined}
use Rattle.desk.specs.Views.{View, view, first_of, rest_of}
use Rattle.desk.specs.Views.Stage.{Idle, Waiting, Holding}

-- what a seat knows, and the slots that it holds
abbrev pub Place : Type 0
Place = Me (Option ShelfView) View

-- draw: the seat has a ticket, and the word had it modulo 2^64
pub record Drawn (old : Place) (found : ℕ) (new : Place) : Type 0 where
  pub waits : new ≡ (view old.0.opening old.0.seen old.0.numbers Waiting new.0.ticket, old.1)
  pub ticket : new.0.ticket % 2 ^ 64 ≡ found

-- The seat has seen a history, in which no call of its own is new, and holds the shelf as that history left it.
pub record HasTurn (old new : Place) : Type 0 where
  pub holds : new.0 ≡ view old.0.opening new.0.seen old.0.numbers Holding new.0.ticket
  pub begins : StartsWith new.0.seen old.0.seen
  pub legal : IsLegalLog old.0.opening new.0.seen
  pub mine : calls_by old.0.numbers new.0.seen ≡ calls_by old.0.numbers old.0.seen
  pub shelf : ShelfView
  pub took : new.1 ≡ (0, Some shelf) ∷ []
  pub stands : StandsAfter old.0.opening new.0.seen (front shelf)

-- look: where the word is the seat's ticket, it is its turn; else nothing changed
pub record Looked (old : Place) (found : ℕ) (new : Place) : Type 0 where
  pub turn : found ≡ old.0.ticket % 2 ^ 64 → HasTurn old new
  pub wait : found ≢ old.0.ticket % 2 ^ 64 → new ≡ old

-- publish: the entry is in the history, the shelf is at home, and the turn is passed on
abbrev pub Published : Entry → Place → Place → Type 0
Published e old new = new ≡ (view old.0.opening (old.0.seen ++ e ∷ []) old.0.numbers Idle old.0.ticket, rest old.1)

-- the entry of no call
abbrev pub no_entry : Entry
no_entry = entry 0 record { imei = 0; records = []; answer = Err NoMemory; mark = no_mark }

-- split: the new seat has the first number
abbrev pub kept_half : View → View
kept_half v = view v.opening v.seen (rest_of v.numbers) Idle 0

abbrev pub given_half : View → View
given_half v = view v.opening v.seen (first_of v.numbers) Idle 0

-- join: both views, side by side
abbrev pub both_views : View → View → View
both_views v w = record { opening = v.opening; seen = v.seen; numbers = v.numbers; other_seen = w.seen; other_numbers = w.numbers; stage = Idle; ticket = 0 }

-- join, by a load that follows: the seat has seen the longer of both histories
pub record Settled (old new : Place) : Type 0 where
  pub rests : new ≡ (view old.0.opening new.0.seen (old.0.numbers ++ old.0.other_numbers) Idle 0, old.1)
  pub joined : AreJoined old.0.seen old.0.numbers old.0.other_seen old.0.other_numbers new.0.seen
