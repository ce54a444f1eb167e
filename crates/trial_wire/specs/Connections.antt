-- A connection in the midst of a trial, and what is true of it by the lines so far.
use Rattle.std.specs.Prelude.{◌≡◌, ◌⊎◌, ◌≤◌, ◌<◌, ℕ, Bool, true, false, List, [], ◌∷◌, ◌++◌, length, Option, if◌then◌else◌}
use Rattle.avl_values.specs.Record.{Record}
use Rattle.shelf.specs.Shelf.{ShelfView}
use Rattle.trial_model.specs.declared.outcome.ConnectionOutcome.{ConnectionOutcome}
use Rattle.trial_model.specs.declared.outcome.DeviceEnd.{DeviceEnd}
use Rattle.trial_model.specs.declared.outcome.DeviceEnd.TheVariants as End
use Rattle.trial_model.specs.declared.outcome.ServerEnd.{ServerEnd}
use Rattle.trial_model.specs.declared.outcome.ServerEnd.TheVariants as Server
use Rattle.trial_model.specs.declared.script.ScriptLine.{ScriptLine}
use Rattle.trial_model.specs.Answers.{HasDeviceEnd, HasServerEnd, counted_of, inside_of, is_fault}
use Rattle.trial_model.specs.Connections.{ConnectionHistory, up_to}
use Rattle.trial_model.specs.Delivery.{delivered_of, frames_between}
use Rattle.trial_model.specs.Frames.{counts_of, frames_of, login_size}
use Rattle.trial_model.specs.Logs.{HasFewFrames, HasWholeLog, IsSent}
use Rattle.trial_model.specs.Script.{Opening}
use Rattle.trial_wire.specs.Sending.{IsSentStream}
use Rattle.trial_server.specs.Serving.{Serves}

-- The log so far, and whether the server's session goes on. The end of a session that goes on is in the log as it would
-- be if the connection ended now.
pub record Connection : Type 0 where
  pub log : ConnectionOutcome
  pub going : Bool

-- the end of a session that goes on, by the bytes of its unfinished item
abbrev pub IsEndNow : ConnectionOutcome → ServerEnd → Type 0
IsEndNow c Server.Ended = inside_of c ≡ 0
IsEndNow c (Server.EndedInside have) = (inside_of c ≡ have) × (0 < have)
IsEndNow c Server.LinkFault = ⊥
IsEndNow c (Server.Broken fault) = ⊥
IsEndNow c (Server.Unknown imei) = ⊥
IsEndNow c (Server.MediumFault faults) = ⊥
IsEndNow c (Server.Down faults) = ⊥
IsEndNow c (Server.LongEnough taken) = ⊥
IsEndNow c Server.NoMemory = ⊥
IsEndNow c Server.Restart = ⊥

-- the end of a session that ended by itself
abbrev pub IsOwnEnd : ConnectionOutcome → ServerEnd → Type 0
IsOwnEnd c Server.Ended = ⊥
IsOwnEnd c (Server.EndedInside have) = ⊥
IsOwnEnd c Server.LinkFault = ⊥
IsOwnEnd c (Server.Broken fault) = ⊥
IsOwnEnd c (Server.Unknown imei) = (c.down ≡ 0 ∷ []) × (imei ≡ c.imei)
IsOwnEnd c (Server.MediumFault faults) = Unit {0}
IsOwnEnd c (Server.Down faults) = ⊥
IsOwnEnd c (Server.LongEnough taken) = ⊥
IsOwnEnd c Server.NoMemory = ⊥
IsOwnEnd c Server.Restart = ⊥

abbrev pub IsEndBy : Bool → ConnectionOutcome → ServerEnd → Type 0
IsEndBy true c end = IsEndNow c end
IsEndBy false c end = IsOwnEnd c end

-- What a session wrote, by the bytes that it took: nothing without a whole login, 0 for a stranger, else 1 and the counts.
pub record IsHeard (known : Bool) (c : ConnectionOutcome) : Type 0 where
  pub within : c.up_given ≤ length c.up
  pub without_login : c.up_given < login_size → c.down ≡ []
  pub stranger : login_size ≤ c.up_given → known ≡ false → (c.down ≡ 0 ∷ []) × (c.server ≡ Server.Unknown c.imei)
  pub counts : login_size ≤ c.up_given → known ≡ true → c.down ≡ 1 ∷ counts_of (counted_of c)
  pub uncounted : is_fault c.server ≡ true → 1 ≤ length (delivered_of c)

-- Done has a frame
abbrev pub HasFrame : DeviceEnd → ConnectionOutcome → Type 0
HasFrame (End.Done n) c = 1 ≤ length (frames_of c.up)
HasFrame End.Empty c = Unit {0}
HasFrame End.Refused c = Unit {0}
HasFrame End.Broken c = Unit {0}
HasFrame (End.WrongAnswer got) c = Unit {0}
HasFrame End.TooManyCommands c = Unit {0}
HasFrame End.MediumFault c = Unit {0}

-- What is true of the connection at place n as a line begins, by the lines and logs so far.
pub record IsConnectionSound (lines : List ScriptLine) (logs : List ConnectionOutcome) (known : Bool) (cover : Option ℕ) (earlier : List Record) (n : ℕ) (h : ConnectionHistory) (w : Connection) : Type 0 where
  -- these three are what the headline says of the log
  pub log : HasWholeLog earlier h w.log
  pub server : HasServerEnd lines logs n h w.log
  pub device : HasDeviceEnd cover w.log
  -- and these, with the archive's, what it says of the answers
  pub heard : IsHeard known w.log
  pub done : HasFrame w.log.device w.log
  -- what was sent, by its bodies
  pub stream : (w.log.up ≡ []) ⊎ IsSentStream w.log.imei w.log.up
  -- the bytes that its own line gave
  pub early : up_to h.opening.up (length w.log.up) ≤ w.log.up_given
  -- a session that goes on is half-open; one that ended by itself while half-open has all that was sent
  pub going : w.going ≡ true → (h.half_open ≡ true) × IsEndNow w.log w.log.server
  pub ended : w.going ≡ false → h.half_open ≡ true → IsOwnEnd w.log w.log.server × (w.log.up_given ≡ length w.log.up)

-- Its end was seen by a session that went on.
abbrev pub shut : Connection → Connection
shut w = record w { going = false }

-- The server's power loss ended a session that went on.
abbrev pub cut_by_power : Connection → Connection
cut_by_power w = if w.going then record { log = record w.log { server = Server.Restart }; going = false } else w

-- The log after the session took the bytes up to a place, and wrote more.
abbrev pub fed : ConnectionOutcome → ℕ → List ℕ → ServerEnd → ConnectionOutcome
fed c b more server = record c { up_given = b; down = c.down ++ more; server = server }

-- A session took the bytes up to the place b of the stream; the frames among them went to the shelf.
pub record IsFed (known failed : Bool) (b : ℕ) (old : ConnectionOutcome) (more : List ℕ) (server : ServerEnd) (going : Bool) (s t : ShelfView) : Type 0 where
  pub after : old.up_given ≤ b
  pub serves : Serves old.imei failed (frames_between old.up_given b old.up) s t
  pub heard : IsHeard known (fed old b more server)
  pub fault : is_fault server ≡ failed
  pub end : IsEndBy going (fed old b more server) server
  pub all : going ≡ false → b ≡ length old.up

-- A `round` or `drain` line: the device's round over a new connection, up to the line's limits.
pub record IsRounded (known failed : Bool) (cover : Option ℕ) (earlier : List Record) (o : Opening) (c : ConnectionOutcome) (going : Bool) (s t : ShelfView) : Type 0 where
  pub imei : c.imei ≡ o.imei
  pub given : c.up_given ≡ up_to o.up (length c.up)
  pub down_given : c.down_given ≡ up_to o.down (length c.down)
  pub sent : IsSent c.device earlier c
  pub few : HasFewFrames o.drains c
  pub device : HasDeviceEnd cover c
  pub done : HasFrame c.device c
  pub stream : (c.up ≡ []) ⊎ IsSentStream c.imei c.up
  pub heard : IsHeard known c
  pub serves : Serves c.imei failed (delivered_of c) s t
  pub fault : is_fault c.server ≡ failed
  pub end : IsEndBy going c c.server
  pub all : going ≡ false → c.up_given ≡ length c.up
