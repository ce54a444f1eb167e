-- The line that is printed where a text is refused (this project's own).
use Rattle.std.specs.Prelude.{ℕ, List, ◌++◌, codes, decimal}

-- `refused line N NAME`
unfoldable pub refused_line : ℕ → List ℕ → List ℕ
refused_line line name = codes "refused line " ++ decimal line ++ codes " " ++ name ++ codes "\n"
