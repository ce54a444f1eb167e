-- What the reader keeps of the lines so far, as those lines say it.
use Rattle.std.specs.Prelude.{◌≡◌, ℕ, ◌+◌, Bool, is_some, List, [], ◌∷◌, ◌++◌, length, option_map, Option, Some, if◌then◌else◌}
use Rattle.std.specs.BTreeMap.{BTreeMap, get}
use Rattle.std.specs.Ordering.{nat_cmp}
use Rattle.trial_model.specs.Connections.{ConnectionHistory, connections_of}
use Rattle.trial_model.specs.Cover.{fuse_of}
use Rattle.trial_model.specs.declared.script.ScriptLine.{ScriptLine}
use Rattle.trial_model.specs.declared.script.Who.TheVariants as Who
use Rattle.journey_script.specs.declared.connections.Connections.{Connections}
use Rattle.journey_script.specs.declared.devices.DeviceState.{DeviceState}
use Rattle.journey_script.specs.declared.fault.LineFault.{LineFault}
use Rattle.journey_script.specs.declared.fault.ScriptFault.{ScriptFault}
use Rattle.journey_script.specs.Later.{Enrolled, connection_count}

abbrev pub Devices : Type 0
Devices = BTreeMap ℕ DeviceState

abbrev pub enrolled_by : DeviceState → Enrolled
enrolled_by state = record { codec = state.codec; settings = state.settings.items; closed = state.closed }

-- the device of an IMEI
abbrev pub enrolled_at : Devices → ℕ → Option Enrolled
enrolled_at devices imei = option_map enrolled_by (get nat_cmp devices imei)

-- a fault is that of a line; out of memory says nothing
abbrev pub RefusesLater : Option ScriptFault → LineFault → Type 0
RefusesLater fault (LineFault.Fault kind) = fault ≡ Some kind
RefusesLater fault LineFault.NoMemory = Unit {0}

-- the numbers of the half-open connections after a line that the server's fuse can cover; a `round` line with a limit adds the next number
abbrev pub open_after : Bool → Bool → ℕ → List ℕ → List ℕ
open_after armed limited count half_open = if armed then [] else if limited then half_open ++ (count + 1) ∷ [] else half_open

-- the numbers, counted from this one, of the connections that are half-open
abbrev pub open_from : ℕ → List ConnectionHistory → List ℕ
open_from n [] = []
open_from n (c ∷ cs) = if c.half_open then n ∷ open_from (n + 1) cs else open_from (n + 1) cs

-- What is kept of the connections is what these lines say of them.
pub record KnowsConnections (connections : Connections) (lines : List ScriptLine) : Type 0 where
  pub count : connections.count ≡ connection_count lines
  pub made : length (connections_of lines) ≡ connection_count lines
  pub half_open : connections.half_open.items ≡ open_from 1 (connections_of lines)
  pub armed : connections.armed ≡ is_some (fuse_of Who.Server lines)
