-- What `late`, `round` and `drain` lines and the server's power loss do to the connections and the archive.
use Rattle.std.specs.Prelude.{◌≡◌, ◌&&◌, ◌==◌, ◌-◌, if◌then◌else◌, ℕ, suc, Bool, true, false, List, [], ◌∷◌, ◌++◌, map, length, slice_get, set, Option, Some, None}
use Rattle.shelf.specs.Shelf.{ShelfView}
use Rattle.trial_model.specs.declared.outcome.ConnectionOutcome.{ConnectionOutcome}
use Rattle.trial_model.specs.declared.outcome.ServerEnd.{ServerEnd}
use Rattle.trial_model.specs.declared.script.ScriptLine.{ScriptLine}
use Rattle.trial_model.specs.Connections.{ConnectionHistory, connections_of, opened, plus, up_to}
use Rattle.trial_model.specs.Script.{Device, Opening}
use Rattle.trial_server.specs.Serving.{Restarts, armed}
use Rattle.trial_wire.specs.Connections.{Connection, IsFed, IsRounded, cut_by_power, fed, shut}
use Rattle.trial_play.specs.Trials.{TrialState, cover_by, earlier_by, known_by, logs_of}

-- A `late` line gives nothing where the session of its connection doesn't go on, or where there is no such connection; else that session
-- takes the next bytes up to the line's number.
pub data FeedsLate (devices : List Device) (number : ℕ) (bytes : Option ℕ) (histories : List ConnectionHistory) (old new : List Connection) (s t : ShelfView) : Type 0 where
  gives_nothing : ((n : ℕ) (w : Connection) → number ≡ suc n → slice_get old n ≡ Some w → w.going ≡ false) → new ≡ old → t ≡ s → FeedsLate devices number bytes histories old new s t
  gives : (n : ℕ) (h : ConnectionHistory) (w : Connection) (failed : Bool) (b : ℕ) (more : List ℕ) (server : ServerEnd) (going : Bool)
      → number ≡ suc n → slice_get histories n ≡ Some h → slice_get old n ≡ Some w → w.going ≡ true → b ≡ up_to (plus h.allowed bytes) (length w.log.up)
      → IsFed (known_by devices h) failed b w.log more server going s t → new ≡ set old n (record { log = fed w.log b more server; going = going })
      → FeedsLate devices number bytes histories old new s t

-- A `round` or `drain` line makes one connection more. On a whole one the server then sees its end.
pub record OpensOne (devices : List Device) (h : ConnectionHistory) (old new : List Connection) (s t : ShelfView) : Type 0 where
  pub failed : Bool
  pub log : ConnectionOutcome
  pub going : Bool
  pub rounded : IsRounded (known_by devices h) failed (cover_by h) (earlier_by devices (logs_of old) h) h.opening log going s t
  pub is : new ≡ old ++ record { log = log; going = going && h.half_open } ∷ []

-- After a line that is covered, the server's power loss ends all sessions that go on.
abbrev pub EndsLine : Option ℕ → List Connection → List Connection → ShelfView → ShelfView → Type 0
EndsLine None old new s t = (new ≡ old) × (t ≡ s)
EndsLine (Some k) old new s t = (new ≡ map cut_by_power old) × Restarts s t

-- a `late` line, for the server
pub record PlaysLate (devices : List Device) (lines : List ScriptLine) (number : ℕ) (bytes : Option ℕ) (old new : TrialState) : Type 0 where
  pub between : List Connection
  pub shelf : ShelfView
  pub feeds : FeedsLate devices number bytes (connections_of lines) old.connections between (armed old.fuse old.shelf) shelf
  pub ends : EndsLine old.fuse between new.connections shelf new.shelf
  pub fuse : new.fuse ≡ None

-- a `round` or `drain` line, for the server
pub record PlaysRound (devices : List Device) (lines : List ScriptLine) (l : ScriptLine) (o : Opening) (old new : TrialState) : Type 0 where
  pub between : List Connection
  pub shelf : ShelfView
  pub opens : OpensOne devices (opened lines l o) old.connections between (armed old.fuse old.shelf) shelf
  pub ends : EndsLine old.fuse between new.connections shelf new.shelf
  pub fuse : new.fuse ≡ None

-- the server's `power` line
pub record PlaysServerPower (old new : TrialState) : Type 0 where
  pub connections : new.connections ≡ map cut_by_power old.connections
  pub restarts : Restarts old.shelf new.shelf
  pub fuse : new.fuse ≡ None

-- the server's part stays
pub record StaysServer (old new : TrialState) : Type 0 where
  pub connections : new.connections ≡ old.connections
  pub shelf : new.shelf ≡ old.shelf
  pub fuse : new.fuse ≡ old.fuse

-- a change of one of a list, by its number from 1
abbrev pub changed_at : {A : Type 0} → (A → A) → ℕ → List A → List A
changed_at change n [] = []
changed_at change n (x ∷ xs) = if n == 1 then change x ∷ xs else x ∷ changed_at change (n - 1) xs

-- a `close` line
pub record PlaysClose (number : ℕ) (old new : TrialState) : Type 0 where
  pub connections : new.connections ≡ changed_at shut number old.connections
  pub shelf : new.shelf ≡ old.shelf
  pub fuse : new.fuse ≡ old.fuse

-- the server's `fuse` line
pub record PlaysServerFuse (calls : ℕ) (old new : TrialState) : Type 0 where
  pub connections : new.connections ≡ old.connections
  pub shelf : new.shelf ≡ old.shelf
  pub fuse : new.fuse ≡ Some calls
