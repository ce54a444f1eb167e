-- Which fuse covers a line. A fuse is set by a `fuse` line for the next line of its medium, and a `power` line of that
-- medium puts it out.
use Rattle.std.specs.Prelude.{ℕ, ◌==◌, ◌||◌, ◌<◌, Bool, true, false, List, Option, Some, None, if◌then◌else◌}
use Rattle.std.specs.List.{fold}
use Rattle.trial_model.specs.declared.script.ScriptLine.{ScriptLine}
use Rattle.trial_model.specs.declared.script.ScriptLine.TheVariants as Line
use Rattle.trial_model.specs.declared.script.Who.{Who}

abbrev pub is_who : Who → Who → Bool
is_who (Who.Device a) (Who.Device b) = a == b
is_who (Who.Device a) Who.Server = false
is_who Who.Server (Who.Device b) = false
is_who Who.Server Who.Server = true

-- the lines that a fuse of this medium can cover: of a device its `fix`, `round` and `drain` lines, of the server all
-- `round`, `drain` and `late` lines
abbrev pub can_cover : Who → ScriptLine → Bool
can_cover who (Line.Device imei codec slots order period distance angle speed known) = false
can_cover who (Line.Setting imei setting) = false
can_cover who (Line.Fix imei fix) = is_who who (Who.Device imei)
can_cover who (Line.Round imei piece up down) = is_who who (Who.Device imei) || is_who who Who.Server
can_cover who (Line.Drain imei piece) = is_who who (Who.Device imei) || is_who who Who.Server
can_cover who (Line.Late connection bytes) = is_who who Who.Server
can_cover who (Line.Close connection) = false
can_cover who (Line.Power w) = false
can_cover who (Line.Fuse w calls tear) = false

-- a line that can be covered uses the waiting fuse up
abbrev pub unless_used : Bool → Option ℕ → Option ℕ
unless_used used fuse = if used then None else fuse

-- the calls of the fuse that waits after a line, by the one that waited before
abbrev pub fuse_after : Who → Option ℕ → ScriptLine → Option ℕ
fuse_after who fuse (Line.Device imei codec slots order period distance angle speed known) = fuse
fuse_after who fuse (Line.Setting imei setting) = fuse
fuse_after who fuse (Line.Fix imei fix) = unless_used (can_cover who (Line.Fix imei fix)) fuse
fuse_after who fuse (Line.Round imei piece up down) = unless_used (can_cover who (Line.Round imei piece up down)) fuse
fuse_after who fuse (Line.Drain imei piece) = unless_used (can_cover who (Line.Drain imei piece)) fuse
fuse_after who fuse (Line.Late connection bytes) = unless_used (can_cover who (Line.Late connection bytes)) fuse
fuse_after who fuse (Line.Close connection) = fuse
fuse_after who fuse (Line.Power w) = if is_who who w then None else fuse
fuse_after who fuse (Line.Fuse w calls tear) = if is_who who w then Some calls else fuse

-- the fuse that waits after these lines
abbrev pub fuse_of : Who → List ScriptLine → Option ℕ
fuse_of who lines = fold (fuse_after who) None lines

-- the calls that a waiting fuse leaves to the medium on a line, where it covers it
abbrev pub cover_on : Who → Option ℕ → ScriptLine → Option ℕ
cover_on who fuse line = if can_cover who line then fuse else None

-- the line is covered, with fewer calls than this
abbrev pub IsBelow : Option ℕ → ℕ → Type 0
IsBelow None n = ⊥
IsBelow (Some k) n = k < n
