-- The connections of a trial beside the places of those that may go on.
use Rattle.std.specs.Prelude.{◌≡◌, ℕ, true, List, slice_get, Some}
use Rattle.std.specs.List.{Contains}
use Rattle.trial_wire.specs.Connections.{Connection}

-- each connection whose session goes on is at one of these places
abbrev pub AreAt : List ℕ → List Connection → Type 0
AreAt places connections = (n : ℕ) (w : Connection) → slice_get connections n ≡ Some w → w.going ≡ true → Contains places n
