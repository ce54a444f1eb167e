-- Which settings fire at a fix (this project's own).
use Rattle.std.specs.Prelude.{ℕ, List, [], ◌∷◌, Option, None, Some, if◌then◌else◌}
use Rattle.io_operands.specs.Firing.{fires}
use Rattle.io_operands.specs.Watching.{Watched}
use Rattle.io_operands.specs.declared.setting.IoSetting.{IoSetting}

-- each setting with its value before, if there is one
abbrev pub watched_by : List IoSetting → List ℕ → List Watched
watched_by [] values = []
watched_by (s ∷ ss) [] = record { setting = s; last = None } ∷ watched_by ss []
watched_by (s ∷ ss) (v ∷ vs) = record { setting = s; last = Some v } ∷ watched_by ss vs

-- the settings that fire at these values, in their order
abbrev pub fired : List Watched → List ℕ → List IoSetting
fired [] values = []
fired (w ∷ ws) [] = []
fired (w ∷ ws) (v ∷ vs) = if fires w v then w.setting ∷ fired ws vs else fired ws vs

-- the watches once they have seen these values
abbrev pub remembered : List Watched → List ℕ → List Watched
remembered [] values = []
remembered (w ∷ ws) [] = []
remembered (w ∷ ws) (v ∷ vs) = record { setting = w.setting; last = Some v } ∷ remembered ws vs

-- the values that watches have seen
abbrev pub with_last : Option ℕ → List ℕ → List ℕ
with_last None values = values
with_last (Some v) values = v ∷ values

abbrev pub seen : List Watched → List ℕ
seen [] = []
seen (w ∷ ws) = with_last w.last (seen ws)
