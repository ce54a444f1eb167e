-- What a seat knows, and what is counted over all seats (this project's own).
use Rattle.std.specs.Prelude.{◌≡◌, ℕ, ◌+◌, ◌<◌, List, [], ◌∷◌, ◌++◌, length, false}
use Rattle.shelf.specs.Admits.{Shelved}
use Rattle.shelf.specs.Entries.{Entry, times, counting}

-- whether a seat has drawn a ticket, and whether it holds the shelf
pub data Stage : Type 0 where
  Idle : Stage
  Waiting : Stage
  Holding : Stage

-- the shelf at the start, the history that the seat has seen, the numbers that its calls stand under, the same of a seat that was
-- just joined to it, and its ticket
pub record View : Type 0 where
  pub opening : Shelved
  pub seen : List Entry
  pub numbers : List ℕ
  pub other_seen : List Entry
  pub other_numbers : List ℕ
  pub stage : Stage
  pub ticket : ℕ

abbrev pub view : Shelved → List Entry → List ℕ → Stage → ℕ → View
view o seen ns stage ticket = record { opening = o; seen = seen; numbers = ns; other_seen = []; other_numbers = []; stage = stage; ticket = ticket }

-- a seat that was joined to no other since its last step, at this stage
pub record IsAlone (stage : Stage) (v : View) : Type 0 where
  pub at : v.stage ≡ stage
  pub no_seen : v.other_seen ≡ []
  pub no_numbers : v.other_numbers ≡ []
  pub numbered : 0 < length v.numbers

-- The first seat has all numbers.
abbrev pub first_view : Shelved → ℕ → View
first_view o seats = view o [] (counting 0 seats) Idle 0

-- the view of a seat that was joined to another
abbrev pub spent : View
spent = view record { list = []; down = false; faults = 0 } [] [] Idle 0

abbrev pub all_numbers : View → List ℕ
all_numbers v = v.numbers ++ v.other_numbers

abbrev pub first_of : List ℕ → List ℕ
first_of [] = []
first_of (n ∷ ns) = n ∷ []

abbrev pub rest_of : List ℕ → List ℕ
rest_of [] = []
rest_of (n ∷ ns) = ns

-- the number that a seat's next call stands under
abbrev pub first_number : List ℕ → ℕ
first_number [] = 0
first_number (n ∷ ns) = n

-- added up over all views
abbrev pub total : (View → ℕ) → List View → ℕ
total f [] = 0
total f (v ∷ vs) = f v + total f vs

-- 1 where the seat has a ticket
abbrev pub busy_at : Stage → ℕ
busy_at Idle = 0
busy_at Waiting = 1
busy_at Holding = 1

abbrev pub busy : View → ℕ
busy v = busy_at v.stage

-- for how many seats it stands
abbrev pub share : View → ℕ
share v = length (all_numbers v)

-- how often it has this number
abbrev pub has : ℕ → View → ℕ
has n v = times n (all_numbers v)
