-- What checked settings keep.
use Rattle.std.specs.Prelude.{◌≡◌, ℕ, ◌<◌, ◌≤◌, List, length}
use Rattle.std.specs.List.{AllByRecursion}
use Rattle.avl_values.specs.Width.{bytes_of}
use Rattle.avl_values.specs.declared.codec.Codec.{Codec}
use Rattle.avl_values.specs.declared.codec.Codec.TheVariants.{C8, C8E, C16}
use Rattle.io_operands.specs.declared.setting.IoSetting.{IoSetting}
use Rattle.acquisition.specs.Checking.{full_length}
use Rattle.acquisition.specs.Elements.{width_of}

-- an id has one byte, in Codec 8
abbrev pub IsNarrow : Codec → ℕ → Type 0
IsNarrow C8 id = id < 256
IsNarrow C8E id = Unit {0}
IsNarrow C16 id = Unit {0}

abbrev pub AreNarrow : Codec → List IoSetting → Type 0
AreNarrow codec ios = AllByRecursion (λ s. IsNarrow codec s.id) ios

-- the width of each is what it says
abbrev pub HaveWidths : List IoSetting → Type 0
HaveWidths ios = AllByRecursion (λ s. bytes_of (width_of s) ≡ s.width) ios

pub record AreChecked (codec : Codec) (ios : List IoSetting) : Type 0 where
  pub few : length ios ≤ 32
  pub widths : HaveWidths ios
  pub narrow : AreNarrow codec ios
  pub short : full_length codec ios ≤ 255
