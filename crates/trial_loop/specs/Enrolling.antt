-- The devices of a script, line after line.
use Rattle.std.specs.Prelude.{◌≡◌, ◌<◌, ◌==◌, ℕ, true, List, [], ◌∷◌, ◌++◌, length, map, slice_get, Some, if◌then◌else◌}
use Rattle.io_operands.specs.declared.setting.IoSetting.{IoSetting}
use Rattle.trial_model.specs.Script.{Device}
use Rattle.trial_model.specs.declared.script.ScriptLine.{ScriptLine}
use Rattle.trial_model.specs.declared.script.ScriptLine.TheVariants as Line

-- one setting more for the devices of this IMEI
abbrev pub with_setting : ℕ → IoSetting → List Device → List Device
with_setting imei setting devices = map (λ (d : Device). if d.imei == imei then record d { settings = d.settings ++ setting ∷ [] } else d) devices

-- the devices after one line more: a device without settings, or one setting more
abbrev pub enrolled_after : List Device → ScriptLine → List Device
enrolled_after devices (Line.Device imei codec slots order period distance angle speed known) = devices ++ record {
  imei = imei;
  codec = codec;
  slots = slots;
  order = order;
  period = period;
  distance = distance;
  angle = angle;
  speed = speed;
  known = known;
  settings = [];
} ∷ []
enrolled_after devices (Line.Setting imei setting) = with_setting imei setting devices
enrolled_after devices (Line.Fix imei fix) = devices
enrolled_after devices (Line.Round imei piece up down) = devices
enrolled_after devices (Line.Drain imei piece) = devices
enrolled_after devices (Line.Late connection bytes) = devices
enrolled_after devices (Line.Close connection) = devices
enrolled_after devices (Line.Power who) = devices
enrolled_after devices (Line.Fuse who calls tear) = devices

-- a device of this IMEI can have one setting more, of at most 32
abbrev pub HasRoom : ℕ → List Device → Type 0
HasRoom imei devices = (n : ℕ) (d : Device) → slice_get devices n ≡ Some d → (d.imei == imei) ≡ true → length d.settings < 32

-- where the line is an `io` line, its device can have its setting
abbrev pub FitsNext : List Device → ScriptLine → Type 0
FitsNext devices (Line.Device imei codec slots order period distance angle speed known) = Unit {0}
FitsNext devices (Line.Setting imei setting) = HasRoom imei devices
FitsNext devices (Line.Fix imei fix) = Unit {0}
FitsNext devices (Line.Round imei piece up down) = Unit {0}
FitsNext devices (Line.Drain imei piece) = Unit {0}
FitsNext devices (Line.Late connection bytes) = Unit {0}
FitsNext devices (Line.Close connection) = Unit {0}
FitsNext devices (Line.Power who) = Unit {0}
FitsNext devices (Line.Fuse who calls tear) = Unit {0}
