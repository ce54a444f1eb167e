-- The I/O elements of a record: one for each setting, with its value now.
use Rattle.std.specs.Prelude.{ℕ, ◌<◌, List, [], ◌∷◌}
use Rattle.std.specs.List.{AllZip}
use Rattle.std.specs.Option.{unwrap_or}
use Rattle.avl_values.specs.IoElement.{IoElement}
use Rattle.avl_values.specs.Width.{limit, width_of_bytes}
use Rattle.avl_values.specs.declared.width.Width.{Width}
use Rattle.avl_values.specs.declared.width.Width.TheVariants.{W1}
use Rattle.io_operands.specs.declared.setting.IoSetting.{IoSetting}

-- the width of a setting's values; checked settings have no width but 1, 2, 4 and 8
abbrev pub width_of : IoSetting → Width
width_of s = unwrap_or (width_of_bytes s.width) W1

abbrev pub element : IoSetting → ℕ → IoElement
element s value = record { id = s.id; width = width_of s; value = value }

abbrev pub elements : List IoSetting → List ℕ → List IoElement
elements [] values = []
elements (s ∷ ss) [] = []
elements (s ∷ ss) (v ∷ vs) = element s v ∷ elements ss vs

-- there are as many values as settings, and each fits its setting's width
abbrev pub ValuesFit : List IoSetting → List ℕ → Type 0
ValuesFit ss values = AllZip (λ (s : IoSetting) (v : ℕ). v < limit (width_of s)) ss values
