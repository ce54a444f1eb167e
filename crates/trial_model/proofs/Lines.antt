-- Lines from which the worked rows are made: one device, and fixes one second apart.
use Rattle.std.specs.Prelude.{ℕ, ◌+◌, ◌*◌, pos, true, [], None, Option}
use Rattle.avl_values.specs.declared.codec.Codec.TheVariants.{C8}
use Rattle.acquisition.specs.declared.fix.Fix.{Fix}
use Rattle.avl_values.specs.declared.order.Order.TheVariants.{Oldest}
use Rattle.trial_model.specs.declared.script.ScriptLine.{ScriptLine}
use Rattle.trial_model.specs.declared.script.ScriptLine.TheVariants as Line
use Rattle.trial_model.specs.declared.script.Who.{Who}
use Rattle.medium_model.specs.declared.bench.Tear.TheVariants.{Keep}
use Rattle.trial_model.specs.Script.{Device}

abbrev pub imei : ℕ
imei = 356307042441013

abbrev pub mine : Who
mine = Who.Device imei

abbrev pub device : ℕ → Device
device slots = record {
  imei = imei;
  codec = C8;
  slots = slots;
  order = Oldest;
  period = 1000;
  distance = 0;
  angle = 0;
  speed = 0;
  known = true;
  settings = [];
}

abbrev pub device_line : ℕ → ScriptLine
device_line slots = Line.Device imei C8 slots Oldest 1000 0 0 0 true

-- a fix N seconds after the first one
abbrev pub fix_at : ℕ → Fix
fix_at seconds = record {
  time = 1560161086000 + seconds * 1000;
  gps = record { longitude = pos 0; latitude = pos 0; altitude = pos 0; angle = 0; satellites = 0; speed = 0 };
  odometer = 0;
  values = record { items = [] };
}

abbrev pub fix : ℕ → ScriptLine
fix seconds = Line.Fix imei (fix_at seconds)

abbrev pub round : Option ℕ → Option ℕ → ScriptLine
round up down = Line.Round imei 64 up down

abbrev pub whole_round : ScriptLine
whole_round = round None None

abbrev pub fuse : Who → ℕ → ScriptLine
fuse who calls = Line.Fuse who calls Keep
