-- Words over a desk and its seats.
use Rattle.std.specs.Prelude.{◌≡◌, ℕ, List, [], ◌∷◌, slice_get, Some}
use Rattle.shelf.specs.Admits.{Shelved}
use Rattle.shelf.specs.Entries.{Entry}
use Rattle.shelf.specs.Shelf.{front}
use Rattle.medium_model.specs.declared.medium.Medium.{Ghosts}
use Rattle.desk.specs.declared.desk.Desk.{Desk}
use Rattle.desk.specs.declared.desk.Seat.{Seat}

module _ {M : Type 0} where
  -- the shelf that the desk was made with, as plain data
  abbrev pub opening : Desk M → Shelved
  opening desk = front desk.table.shared.key.shelf.value

  -- for how many seats it was made
  abbrev pub seats_of : Desk M → ℕ
  seats_of desk = desk.table.shared.key.seats

module _ {M : Type 0} {d : Ghosts M} where
  -- the history that a seat has seen
  abbrev pub seen : Seat M d → List Entry
  seen seat = seat.token.me.0.seen

  -- the numbers of the seats that it stands for
  abbrev pub numbers : Seat M d → List ℕ
  numbers seat = seat.token.me.0.numbers

  -- it is a seat of this desk
  pub record IsSeatOf (desk : Desk M) (seat : Seat M d) : Type 0 where
    pub table : seat.token.table_id ≡ desk.table.shared.table_id
    pub opening_is : seat.token.me.0.opening ≡ opening desk

  -- a seat that has seen no call, with one number
  pub record IsNewSeat (desk : Desk M) (number : ℕ) (seat : Seat M d) : Type 0 where
    pub of_desk : IsSeatOf desk seat
    pub own : numbers seat ≡ number ∷ []
    pub unseen : seen seat ≡ []

  -- each seat at its place has the place for its number
  abbrev pub AreNewSeats : Desk M → List (Seat M d) → Type 0
  AreNewSeats desk seats = (k : ℕ) (seat : Seat M d) → slice_get seats k ≡ Some seat → IsNewSeat desk k seat

  -- each is a seat of this desk
  abbrev pub AreSeatsOf : Desk M → List (Seat M d) → Type 0
  AreSeatsOf desk seats = (k : ℕ) (seat : Seat M d) → slice_get seats k ≡ Some seat → IsSeatOf desk seat
