-- A text cut in two.
use Rattle.std.specs.Prelude.{ℕ, ◌+◌, ◌==◌, List, Option, drop, option_map, position, take}

-- what comes before the first such byte, and after it; None where there is none
abbrev pub cut_at : ℕ → List ℕ → Option (List ℕ × List ℕ)
cut_at byte text = option_map (λ place. (take place text, drop (place + 1) text)) (position (λ b. b == byte) text)
