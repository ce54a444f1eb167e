-- An I/O element that is watched: its setting, and the value that it had last, if any.
use Rattle.std.specs.Prelude.{ℕ, Option}
use Rattle.io_operands.specs.declared.setting.IoSetting.{IoSetting}

pub record Watched : Type 0 where
  pub setting : IoSetting
  pub last : Option ℕ
