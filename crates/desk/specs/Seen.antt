-- What a desk's calls leave of the history that a seat has seen.
use Rattle.std.specs.Prelude.{◌≡◌, ◌⊎◌, ℕ, List, [], ◌∷◌, ◌++◌}
use Rattle.shelf.specs.Admits.{Shelved}
use Rattle.shelf.specs.Calls.{Brought}
use Rattle.shelf.specs.Entries.{Entry, entry, IsLegalLog, AreCountedIn, StartsWith, calls_by}
use Rattle.desk.specs.Views.{first_number}

-- The history after a call is legal, begins with all that the seat had seen, and ends with this call, which is one more under
-- the seat's numbers. Each count of faults in it is above the one at the start.
pub record Extends (o : Shelved) (numbers : List ℕ) (b : Brought) (old new : List Entry) : Type 0 where
  pub between : List Entry
  pub grown : new ≡ (old ++ between) ++ entry (first_number numbers) b ∷ []
  pub legal : IsLegalLog o new
  pub mine : calls_by numbers new ≡ calls_by numbers old ++ entry (first_number numbers) b ∷ []
  pub high : ℕ
  pub counted : AreCountedIn o.faults high new

-- The longer of two histories, which the other begins. The calls under either seat's numbers are those that it had.
pub record AreJoined (one : List Entry) (numbers : List ℕ) (other : List Entry) (other_numbers : List ℕ) (seen : List Entry) : Type 0 where
  pub longer : (seen ≡ one) ⊎ (seen ≡ other)
  pub begins : StartsWith seen one
  pub other_begins : StartsWith seen other
  pub calls : calls_by numbers seen ≡ calls_by numbers one
  pub other_calls : calls_by other_numbers seen ≡ calls_by other_numbers other
