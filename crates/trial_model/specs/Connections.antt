-- What the lines say of each connection: how much of it may be delivered, and how long it is half-open.
use Rattle.std.specs.Prelude.{ℕ, ◌+◌, ◌-◌, ◌==◌, min, Bool, true, false, ◌&&◌, not, is_none, List, [], ◌∷◌, ◌++◌, map, slice_get, Option, Some, None, if◌then◌else◌}
use Rattle.std.specs.List.{fold}
use Rattle.trial_model.specs.declared.script.ScriptLine.{ScriptLine}
use Rattle.trial_model.specs.declared.script.ScriptLine.TheVariants as Line
use Rattle.trial_model.specs.declared.script.Who.TheVariants as Who
use Rattle.trial_model.specs.Cover.{fuse_after}
use Rattle.trial_model.specs.Script.{Opening}

-- A connection, by the line that made it and the lines before that. A limit of None is none.
pub record ConnectionHistory : Type 0 where
  pub before : List ScriptLine
  pub line : ScriptLine
  pub opening : Opening
  -- the bytes up that all lines so far may deliver
  pub allowed : Option ℕ
  pub half_open : Bool
  -- the server's power loss ended its half-open time
  pub restarted : Bool

abbrev pub plus : Option ℕ → Option ℕ → Option ℕ
plus None n = None
plus (Some m) None = None
plus (Some m) (Some n) = Some (m + n)

-- the lesser, where there is a limit
abbrev pub up_to : Option ℕ → ℕ → ℕ
up_to None n = n
up_to (Some m) n = min m n

-- no limit either way
abbrev pub is_whole : Opening → Bool
is_whole o = is_none o.up && is_none o.down

-- a connection with a limit is half-open from its own line on
abbrev pub opened : List ScriptLine → ScriptLine → Opening → ConnectionHistory
opened before line o = record { before = before; line = line; opening = o; allowed = o.up; half_open = not (is_whole o); restarted = false }

abbrev pub with_more : Option ℕ → ConnectionHistory → ConnectionHistory
with_more n c = if c.half_open then record c { allowed = plus c.allowed n } else c

abbrev pub closed : ConnectionHistory → ConnectionHistory
closed c = record c { half_open = false }

abbrev pub restarted : ConnectionHistory → ConnectionHistory
restarted c = if c.half_open then record c { half_open = false; restarted = true } else c

-- a change of one connection, by its number from 1
abbrev pub at_number : (ConnectionHistory → ConnectionHistory) → ℕ → List ConnectionHistory → List ConnectionHistory
at_number change n [] = []
at_number change n (c ∷ cs) = if n == 1 then change c ∷ cs else c ∷ at_number change (n - 1) cs

-- What the lines so far say of the server: its connections, and the calls of the fuse that waits.
pub record ServerHistory : Type 0 where
  pub lines : List ScriptLine
  pub connections : List ConnectionHistory
  pub fuse : Option ℕ

-- a line that a server fuse covers ends all half-open times, that of its own connection among them
abbrev pub if_covered : Option ℕ → List ConnectionHistory → List ConnectionHistory
if_covered None cs = cs
if_covered (Some k) cs = map restarted cs

abbrev pub connections_after : ServerHistory → ScriptLine → List ConnectionHistory
connections_after h (Line.Device imei codec slots order period distance angle speed known) = h.connections
connections_after h (Line.Setting imei setting) = h.connections
connections_after h (Line.Fix imei fix) = h.connections
connections_after h (Line.Round imei piece up down) = if_covered h.fuse
    (h.connections ++ opened h.lines (Line.Round imei piece up down) (record { imei = imei; drains = false; up = up; down = down }) ∷ [])
connections_after h (Line.Drain imei piece) = if_covered h.fuse
    (h.connections ++ opened h.lines (Line.Drain imei piece) (record { imei = imei; drains = true; up = None; down = None }) ∷ [])
connections_after h (Line.Late connection bytes) = if_covered h.fuse (at_number (with_more bytes) connection h.connections)
connections_after h (Line.Close connection) = at_number closed connection h.connections
connections_after h (Line.Power (Who.Device imei)) = h.connections
connections_after h (Line.Power Who.Server) = map restarted h.connections
connections_after h (Line.Fuse who calls tear) = h.connections

abbrev pub server_after : ServerHistory → ScriptLine → ServerHistory
server_after h line = record { lines = h.lines ++ line ∷ []; connections = connections_after h line; fuse = fuse_after Who.Server h.fuse line }

abbrev pub server_of : List ScriptLine → ServerHistory
server_of lines = fold server_after (record { lines = []; connections = []; fuse = None }) lines

-- the connections that these lines made, in order of number
abbrev pub connections_of : List ScriptLine → List ConnectionHistory
connections_of lines = (server_of lines).connections

-- how many of the bytes sent are delivered on a connection
abbrev pub given_to : Option ConnectionHistory → ℕ → ℕ
given_to None sent = 0
given_to (Some c) sent = up_to c.allowed sent

-- how many of the bytes sent these lines deliver on the connection at a place from 0
abbrev pub given_by : List ScriptLine → ℕ → ℕ → ℕ
given_by lines place sent = given_to (slice_get (connections_of lines) place) sent
