-- Seats of one desk.
use Rattle.std.specs.Prelude.{◌≡◌, ℕ, List, length, slice_get, Some}
use Rattle.medium_model.specs.declared.medium.Medium.{Ghosts}
use Rattle.desk.specs.declared.desk.Desk.{Desk}
use Rattle.desk.specs.declared.desk.Seat.{Seat}
use Rattle.desk.specs.Desks.{IsSeatOf, numbers}

module _ {M : Type 0} {d : Ghosts M} where
  -- a seat of this desk that stands for N seats
  pub record StandsForSeats (desk : Desk M) (many : ℕ) (seat : Seat M d) : Type 0 where
    pub of_desk : IsSeatOf desk seat
    pub count : length (numbers seat) ≡ many

  -- seats of this desk, each for itself
  abbrev pub AreSeats : Desk M → List (Seat M d) → Type 0
  AreSeats desk seats = (k : ℕ) (seat : Seat M d) → slice_get seats k ≡ Some seat → StandsForSeats desk 1 seat

  -- two seats of this desk, each for itself
  pub record AreTwo (desk : Desk M) (first second : Seat M d) : Type 0 where
    pub first_is : StandsForSeats desk 1 first
    pub second_is : StandsForSeats desk 1 second
