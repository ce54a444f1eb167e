-- The laws of items, over all rows.
use Rattle.std.specs.Prelude.{◌≡◌, ℕ, ◌+◌, ◌≤◌, List, ◌++◌, length, take, drop}
use Rattle.layout.specs.Rows.{Rows, short, whole, judge, Fills, within}

-- A verdict that has come stays, whatever follows.
abbrev pub VerdictStays : Type 0 → Type 0
VerdictStays V = (rows : Rows V) (place : ℕ) (bytes more : List ℕ) → (judge rows place bytes ≡ short → ⊥) → judge rows place (bytes ++ more) ≡ judge rows place bytes

-- Where the verdict is whole, the first bytes fill the rows.
abbrev pub WholeIsFilled : Type 0 → Type 0
WholeIsFilled V = (rows : Rows V) (place n : ℕ) (v : V) (bytes : List ℕ) → judge rows place bytes ≡ whole v n
    → (k : ℕ) × (n ≡ place + k) × (k ≤ length bytes) × Fills rows v (take k bytes)

-- And bytes that fill the rows are the whole item.
abbrev pub FilledIsWhole : Type 0 → Type 0
FilledIsWhole V = (rows : Rows V) (place : ℕ) (v : V) (bytes more : List ℕ) → Fills rows v bytes → judge rows place (bytes ++ more) ≡ whole v (place + length bytes)

-- No item begins another, and no item says two values.
abbrev pub NoneBeginsAnother : Type 0 → Type 0
NoneBeginsAnother V = (rows : Rows V) (v w : V) (a b x y : List ℕ) → Fills rows v a → Fills rows w b → a ++ x ≡ b ++ y → (a ≡ b) × (v ≡ w)

-- What fills a body of N bytes and what follows it fills the rows with N bytes, and then what follows.
abbrev pub WithinFilled : Type 0 → Type 0 → Type 0
WithinFilled V W = (room : ℕ) (rows : Rows V) (after : V → Rows W) (w : W) (bytes : List ℕ) → Fills (within room rows after) w bytes
    → (v : V) × (room ≤ length bytes) × Fills rows v (take room bytes) × Fills (after v) w (drop room bytes)

abbrev pub FilledWithin : Type 0 → Type 0 → Type 0
FilledWithin V W = (rows : Rows V) (after : V → Rows W) (v : V) (w : W) (front back : List ℕ) → Fills rows v front → Fills (after v) w back → Fills (within (length front) rows after) w (front ++ back)
