-- The lines of a text of a script or a capture (this project's own). They end with LF; one CR before it is dropped, and the last LF may be
-- missing, as `str::lines` of Rust has it.
use Rattle.std.specs.Prelude.{ℕ, ◌==◌, Bool, true, not, List, [], ◌∷◌, filter}
use Rattle.std.specs.List.{enumerate_from}
use Rattle.std.specs.Str.Lines.{lines}

-- an empty line, and a line that begins with `#`, says nothing
abbrev pub is_skipped : List ℕ → Bool
is_skipped [] = true
is_skipped (first ∷ rest) = first == 35

-- the lines that say something, each with its number, where the first line has this one
unfoldable pub content_from : ℕ → List (List ℕ) → List (ℕ × List ℕ)
content_from number lines = filter (λ line. not (is_skipped line.1)) (enumerate_from number lines)

-- those of a text, whose lines are numbered from 1
abbrev pub content_lines : List ℕ → List (ℕ × List ℕ)
content_lines text = content_from 1 (lines text)
