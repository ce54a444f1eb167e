-- The body of a frame.
use Rattle.std.specs.Prelude.{ℕ, ◌-◌, List, length, take, drop}

-- a frame's body, which comes between the eight bytes before it and the four after it
abbrev pub body_in : List ℕ → List ℕ
body_in frame = take (length frame - 12) (drop 8 frame)
