-- The script of a seed (this project's own): the lines of each device, the lines of each turn, and two `drain` lines of each device.
use Rattle.std.specs.Prelude.{ℕ, zero, suc, pos, ◌+◌, ◌-◌, ◌/◌, ◌%◌, ◌==◌, true, List, [], ◌∷◌, ◌++◌, replicate, slice_index_or, slice_set, Some, None, if◌then◌else◌}
use Rattle.std.specs.List.{enumerate_from}
use Rattle.acquisition.specs.declared.fix.Fix.{Fix}
use Rattle.avl_values.specs.declared.codec.Codec.{Codec}
use Rattle.avl_values.specs.declared.codec.Codec.TheVariants.{C8, C8E, C16}
use Rattle.avl_values.specs.declared.order.Order.TheVariants.{Oldest}
use Rattle.io_operands.specs.declared.setting.IoSetting.{IoSetting}
use Rattle.io_operands.specs.declared.setting.Operand.TheVariants as Operand
use Rattle.trial_model.specs.Script.{Script}
use Rattle.trial_model.specs.declared.script.ScriptLine.{ScriptLine}
use Rattle.trial_model.specs.declared.script.ScriptLine.TheVariants as Line
use Rattle.trial_model.specs.declared.script.Who.TheVariants as Who
use Rattle.made_script.specs.declared.journey.Vehicle.{Vehicle}
use Rattle.made_script.specs.declared.turn.Event.{Event}
use Rattle.made_script.specs.declared.turn.Event.TheVariants.{CutRound, DeviceFuse, Nothing, Power, ServerFuse, WholeRound}
use Rattle.made_script.specs.declared.turn.Turn.{Turn}
use Rattle.made_script.specs.Draws.{drawn_turns, seeded}

-- ---- devices, from 1
abbrev pub imei_at : ℕ → ℕ
imei_at device = 350000000000000 + device

abbrev pub codec_at : ℕ → Codec
codec_at device = if device % 3 == 1 then C8 else if device % 3 == 2 then C8E else C16

-- the ignition (element 239) and the voltage (element 66)
abbrev pub ignition_setting : IoSetting
ignition_setting = record { id = 239; width = 1; operand = Operand.Change; low = 0; high = 0; priority = 1 }

abbrev pub voltage_setting : IoSetting
voltage_setting = record { id = 66; width = 2; operand = Operand.Hysteresis; low = 11000; high = 15000; priority = 2 }

abbrev pub device_lines : ℕ → List ScriptLine
device_lines device = Line.Device (imei_at device) (codec_at device) 64 Oldest 10000 100 15 10 true
    ∷ Line.Setting (imei_at device) ignition_setting ∷ Line.Setting (imei_at device) voltage_setting ∷ []

abbrev pub drain_lines : ℕ → List ScriptLine
drain_lines device = Line.Drain (imei_at device) 512 ∷ Line.Drain (imei_at device) 512 ∷ []

-- these lines of each device up to this one
unfoldable pub of_devices : (ℕ → List ScriptLine) → ℕ → List ScriptLine
of_devices lines zero = []
of_devices lines (suc devices) = of_devices lines devices ++ lines (suc devices)

-- ---- turns
-- Where the journey stands: the time, the `round` lines so far, and each vehicle.
pub record Stand : Type 0 where
  pub time : ℕ
  pub rounds : ℕ
  pub vehicles : List Vehicle

abbrev pub parked : Vehicle
parked = record { odometer = 0; angle = 0 }

abbrev pub started : ℕ → Stand
started devices = record { time = 1560000000000; rounds = 0; vehicles = replicate devices parked }

-- the vehicle of a device
abbrev pub vehicle_at : ℕ → Stand → Vehicle
vehicle_at device stand = slice_index_or stand.vehicles (device - 1) parked

abbrev pub moved : Turn → Vehicle → Vehicle
moved turn vehicle = record { odometer = vehicle.odometer + turn.speed / 3; angle = (vehicle.angle + turn.bend) % 360 }

abbrev pub rounds_of : Event → ℕ
rounds_of (WholeRound piece) = 1
rounds_of (CutRound piece up) = 1
rounds_of Power = 0
rounds_of (DeviceFuse calls tear) = 0
rounds_of (ServerFuse calls tear) = 0
rounds_of Nothing = 0

unfoldable pub after_turn : Stand → Turn → Stand
after_turn stand turn = record {
  time = stand.time + 1000;
  rounds = stand.rounds + rounds_of turn.event;
  vehicles = slice_set stand.vehicles (turn.device - 1) (moved turn (vehicle_at turn.device stand));
}

abbrev pub fix_of : Stand → Turn → Fix
fix_of stand turn = record {
  time = stand.time;
  gps = record {
    longitude = pos (250000000 + turn.east);
    latitude = pos (546000000 + turn.north);
    altitude = pos 100;
    angle = (vehicle_at turn.device stand).angle;
    satellites = 9;
    speed = turn.speed;
  };
  odometer = (vehicle_at turn.device stand).odometer;
  values = record { items = turn.ignition ∷ turn.voltage ∷ [] };
}

-- the lines of an event on a device, where N `round` lines stand, its own among them
abbrev pub event_lines : ℕ → ℕ → Event → List ScriptLine
event_lines imei rounds (WholeRound piece) = Line.Round imei piece None None ∷ []
event_lines imei rounds (CutRound piece up) = Line.Round imei piece (Some up) None ∷ Line.Late rounds None ∷ Line.Close rounds ∷ []
event_lines imei rounds Power = Line.Power (Who.Device imei) ∷ []
event_lines imei rounds (DeviceFuse calls tear) = Line.Fuse (Who.Device imei) calls tear ∷ []
event_lines imei rounds (ServerFuse calls tear) = Line.Fuse Who.Server calls tear ∷ []
event_lines imei rounds Nothing = []

-- the lines of a turn, where the journey comes after it
abbrev pub lines_at : Stand → Turn → List ScriptLine
lines_at stand turn = Line.Fix (imei_at turn.device) (fix_of stand turn) ∷ event_lines (imei_at turn.device) stand.rounds turn.event

-- the lines of these turns, from where the journey stands
unfoldable pub turn_lines : Stand → List Turn → List ScriptLine
turn_lines stand [] = []
turn_lines stand (turn ∷ turns) = lines_at (after_turn stand turn) turn ++ turn_lines (after_turn stand turn) turns

-- ---- the script
unfoldable pub made_lines : ℕ → ℕ → ℕ → List ScriptLine
made_lines seed devices fixes =
    of_devices device_lines devices ++ (turn_lines (started devices) (drawn_turns devices fixes (seeded seed)) ++ of_devices drain_lines devices)

abbrev pub made : ℕ → ℕ → ℕ → Script
made seed devices fixes = enumerate_from 1 (made_lines seed devices fixes)
