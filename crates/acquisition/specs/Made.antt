-- The records that a fix makes (this project's own).
use Rattle.std.specs.Prelude.{ℕ, []}
use Rattle.avl_values.specs.Record.{Record}
use Rattle.avl_values.specs.RecordValue.{RecordValue, pairs_of}
use Rattle.avl_values.specs.declared.codec.Codec.{Codec}
use Rattle.avl_values.specs.declared.codec.Codec.TheVariants.{C8, C8E, C16}
use Rattle.avl_values.specs.declared.width.Width.TheVariants.{W1, W2, W4, W8}
use Rattle.io_operands.specs.Generation.{generation_of}
use Rattle.io_operands.specs.declared.setting.IoSetting.{IoSetting}
use Rattle.record_layout.specs.Spelling.{spelled}
use Rattle.acquisition.specs.declared.fix.Fix.{Fix}
use Rattle.acquisition.specs.Elements.{elements}
use Rattle.acquisition.specs.Settings.{AcquisitionSettings}

-- a generation type, which only Codec 16 has
abbrev pub in_codec : Codec → ℕ → ℕ
in_codec C8 generation = 0
in_codec C8E generation = 0
in_codec C16 generation = generation

-- the values of all settings by width, in the order of the settings
abbrev pub value_at : AcquisitionSettings → Fix → ℕ → ℕ → ℕ → RecordValue
value_at settings fix event priority generation = let ios = elements settings.ios fix.values.items in record {
  time = fix.time;
  priority = priority;
  longitude = fix.gps.longitude;
  latitude = fix.gps.latitude;
  altitude = fix.gps.altitude;
  angle = fix.gps.angle;
  satellites = fix.gps.satellites;
  speed = fix.gps.speed;
  event = event;
  generation = in_codec settings.codec generation;
  ones = pairs_of W1 ios;
  twos = pairs_of W2 ios;
  fours = pairs_of W4 ios;
  eights = pairs_of W8 ios;
  nx = [];
}

abbrev pub record_at : AcquisitionSettings → Fix → ℕ → ℕ → ℕ → Record
record_at settings fix event priority generation = record { codec = settings.codec; bytes = spelled settings.codec (value_at settings fix event priority generation) }

-- the record of a setting that fires
abbrev pub event_record : AcquisitionSettings → Fix → IoSetting → Record
event_record settings fix s = record_at settings fix s.id s.priority (generation_of s.operand)

-- the record where none fires: no event, the lowest priority, and generation type 7, periodical
abbrev pub plain_record : AcquisitionSettings → Fix → Record
plain_record settings fix = record_at settings fix 0 0 7
