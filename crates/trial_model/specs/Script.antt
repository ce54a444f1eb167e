-- A script as a list of lines, and what single lines say.
use Rattle.std.specs.Prelude.{ℕ, ◌==◌, Bool, true, false, List, [], ◌∷◌, map, Option, Some, None, if◌then◌else◌}
use Rattle.std.specs.List.{filter_map}
use Rattle.avl_values.specs.declared.codec.Codec.{Codec}
use Rattle.io_operands.specs.declared.setting.IoSetting.{IoSetting}
use Rattle.acquisition.specs.Settings.{AcquisitionSettings}
use Rattle.avl_values.specs.declared.order.Order.{Order}
use Rattle.trial_model.specs.declared.script.ScriptLine.{ScriptLine}
use Rattle.trial_model.specs.declared.script.ScriptLine.TheVariants as Line

-- The numbered lines, without those that are skipped.
abbrev pub Script : Type 0
Script = List (ℕ × ScriptLine)

abbrev pub lines_of : Script → List ScriptLine
lines_of script = map (λ l. l.1) script

-- What a `device` line says, with the settings of its `io` lines.
pub record Device : Type 0 where
  pub imei : ℕ
  pub codec : Codec
  pub slots : ℕ
  pub order : Order
  pub period : ℕ
  pub distance : ℕ
  pub angle : ℕ
  pub speed : ℕ
  -- marked `known`: the server accepts its login
  pub known : Bool
  pub settings : List IoSetting

-- what the device acquires records by
abbrev pub settings_of : Device → AcquisitionSettings
settings_of device = record {
  codec = device.codec;
  period = device.period;
  distance = device.distance;
  angle = device.angle;
  speed = device.speed;
  ios = device.settings;
}

-- the setting that a line gives a device
abbrev pub setting_on : ℕ → ScriptLine → Option IoSetting
setting_on imei (Line.Device who codec slots order period distance angle speed known) = None
setting_on imei (Line.Setting who setting) = if who == imei then Some setting else None
setting_on imei (Line.Fix who fix) = None
setting_on imei (Line.Round who piece up down) = None
setting_on imei (Line.Drain who piece) = None
setting_on imei (Line.Late connection bytes) = None
setting_on imei (Line.Close connection) = None
setting_on imei (Line.Power who) = None
setting_on imei (Line.Fuse who calls tear) = None

-- the device of a line, with its settings among all lines
abbrev pub device_on : List ScriptLine → ScriptLine → Option Device
device_on lines (Line.Device imei codec slots order period distance angle speed known) = Some (record {
  imei = imei;
  codec = codec;
  slots = slots;
  order = order;
  period = period;
  distance = distance;
  angle = angle;
  speed = speed;
  known = known;
  settings = filter_map (setting_on imei) lines;
})
device_on lines (Line.Setting who setting) = None
device_on lines (Line.Fix who fix) = None
device_on lines (Line.Round who piece up down) = None
device_on lines (Line.Drain who piece) = None
device_on lines (Line.Late connection bytes) = None
device_on lines (Line.Close connection) = None
device_on lines (Line.Power who) = None
device_on lines (Line.Fuse who calls tear) = None

-- the devices, in order of their `device` lines
abbrev pub devices_of : List ScriptLine → List Device
devices_of lines = filter_map (device_on lines) lines

-- How a `round` or `drain` line opens its connection. A limit of None is none.
pub record Opening : Type 0 where
  pub imei : ℕ
  -- as many packets as it takes, and not at most one
  pub drains : Bool
  -- the bytes up and down that its own line may deliver
  pub up : Option ℕ
  pub down : Option ℕ

abbrev pub opening_of : ScriptLine → Option Opening
opening_of (Line.Device imei codec slots order period distance angle speed known) = None
opening_of (Line.Setting imei setting) = None
opening_of (Line.Fix imei fix) = None
opening_of (Line.Round imei piece up down) = Some (record { imei = imei; drains = false; up = up; down = down })
opening_of (Line.Drain imei piece) = Some (record { imei = imei; drains = true; up = None; down = None })
opening_of (Line.Late connection bytes) = None
opening_of (Line.Close connection) = None
opening_of (Line.Power who) = None
opening_of (Line.Fuse who calls tear) = None

-- whether a device is marked as known
abbrev pub is_known : ℕ → List Device → Bool
is_known imei [] = false
is_known imei (d ∷ ds) = if d.imei == imei then d.known else is_known imei ds
