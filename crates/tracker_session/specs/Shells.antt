-- What the plain shell answers (this project's own).
use Rattle.std.specs.Prelude.{ℕ, List, codes, if◌then◌else◌}
use Rattle.std.specs.Str.{bytes_eq}

-- `fmb 1` to `getver`, and `unknown command` to every other text
abbrev pub plain_answer : List ℕ → List ℕ
plain_answer text = if bytes_eq text (codes "getver") then codes "fmb 1" else codes "unknown command"
