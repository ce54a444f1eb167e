-- What a device acquires records by.
use Rattle.std.specs.Prelude.{ℕ, List}
use Rattle.avl_values.specs.declared.codec.Codec.{Codec}
use Rattle.io_operands.specs.declared.setting.IoSetting.{IoSetting}

-- period in milliseconds, distance in metres, angle in degrees, speed in km/h; one of them that is 0 is switched off
pub record AcquisitionSettings : Type 0 where
  pub codec : Codec
  pub period : ℕ
  pub distance : ℕ
  pub angle : ℕ
  pub speed : ℕ
  pub ios : List IoSetting
