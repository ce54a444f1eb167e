-- How many slots of a device's flash may be open: an upper bound, by the script's lines and the ends of its connections.
use Rattle.std.specs.Prelude.{ℕ, ◌+◌, ◌-◌, min, Bool, true, false, Option, Some, None}
use Rattle.trial_model.specs.declared.outcome.DeviceEnd.{DeviceEnd}
use Rattle.trial_model.specs.declared.outcome.DeviceEnd.TheVariants as End

-- after a record more
abbrev pub one_more : ℕ → ℕ → ℕ
one_more slots load = min (load + 1) slots

-- after a connection with at most one packet: the packet's records leave, or there was none
abbrev pub load_after_round : DeviceEnd → ℕ → ℕ
load_after_round (End.Done n) load = load - n
load_after_round End.Empty load = 0
load_after_round End.Refused load = load
load_after_round End.Broken load = load
load_after_round (End.WrongAnswer got) load = load
load_after_round End.TooManyCommands load = load
load_after_round End.MediumFault load = load

-- after a connection with as many packets as it takes
abbrev pub load_after_drain : DeviceEnd → ℕ → ℕ
load_after_drain (End.Done n) load = 0
load_after_drain End.Empty load = 0
load_after_drain End.Refused load = load
load_after_drain End.Broken load = load
load_after_drain (End.WrongAnswer got) load = load
load_after_drain End.TooManyCommands load = load
load_after_drain End.MediumFault load = load

abbrev pub load_by : Bool → Option DeviceEnd → ℕ → ℕ
load_by drains None load = load
load_by false (Some end) load = load_after_round end load
load_by true (Some end) load = load_after_drain end load
