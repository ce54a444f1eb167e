-- What a `late` line does to its connection and to the archive.
use Rattle.std.specs.Prelude.{◌≡◌, ◌<◌, ◌≤◌, ◌^◌, ℕ, suc, true, false, List, length, set, slice_get, take, Option, Some, is_none}
use Rattle.session_core.specs.declared.known.Known.{Known}
use Rattle.session_core.specs.Sessions.{SessionState}
use Rattle.shelf.specs.Shelf.{ShelfView}
use Rattle.trial_model.specs.declared.outcome.ServerEnd.{ServerEnd}
use Rattle.trial_model.specs.declared.outcome.ServerEnd.TheVariants as Server
use Rattle.trial_model.specs.Connections.{plus, up_to}
use Rattle.trial_talks.specs.Rounds.{server_by}
use Rattle.trial_wire.specs.Connections.{Connection, fed}
use Rattle.trial_wire.specs.Hearing.{rest_in}
use Rattle.trial_wire.specs.WireLinks.{Passes}

-- up to where a session has the bytes of its stream once it was given this number more
abbrev pub place_after : Connection → Option ℕ → ℕ
place_after w bytes = up_to (plus (Some w.log.up_given) bytes) (length w.log.up)

-- A session that goes on took the next bytes of its stream.
pub record TakesMore (known : Known) (bytes : Option ℕ) (old new : Connection) (s t : ShelfView) : Type 0 where
  pub digits : old.log.imei < 10 ^ 15
  pub some : old.log.up_given < place_after old bytes
  pub now : SessionState
  pub down : List ℕ
  pub at : ℕ
  pub ended : Option ServerEnd
  pub passes : Passes known old.log.up old.log.up_given (place_after old bytes) now s t old.log.down down at ended
  pub memory : ended ≡ Some Server.NoMemory → ⊥
  pub is : new ≡ record { log = fed old.log (place_after old bytes) passes.wrote (server_by ended (length (rest_in (take at old.log.up)))); going = is_none ended }

-- Nothing where it doesn't go on, and nothing where it has all bytes that the line gives.
pub data FeedsOne (known : Known) (bytes : Option ℕ) (old new : Connection) (s t : ShelfView) : Type 0 where
  is_over : old.going ≡ false → new ≡ old → t ≡ s → FeedsOne known bytes old new s t
  has_all : old.going ≡ true → old.log.up_given ≡ place_after old bytes → new ≡ old → t ≡ s → FeedsOne known bytes old new s t
  takes_more : old.going ≡ true → TakesMore known bytes old new s t → FeedsOne known bytes old new s t

-- The connection of this number was fed, if there is one.
pub data FeedsNumber (known : Known) (number : ℕ) (bytes : Option ℕ) (old new : List Connection) (s t : ShelfView) : Type 0 where
  no_such : ((n : ℕ) → number ≡ suc n → length old ≤ n) → new ≡ old → t ≡ s → FeedsNumber known number bytes old new s t
  feeds : (n : ℕ) (w v : Connection) → number ≡ suc n → slice_get old n ≡ Some w → FeedsOne known bytes w v s t → new ≡ set old n v → FeedsNumber known number bytes old new s t
