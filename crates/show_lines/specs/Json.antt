-- Pieces of compact JSON (RFC 8259), as bytes.
use Rattle.std.specs.Prelude.{ℕ, List, [], ◌∷◌, ◌++◌, codes, Option, Some, None}
use Rattle.std.specs.List.{concat, join_with_byte}

-- a text that needs no escape, in quotes
abbrev pub in_quotes : List ℕ → List ℕ
in_quotes text = concat (codes "\"" ∷ text ∷ codes "\"" ∷ [])

-- a list of values, with a comma (44) between each two
abbrev pub in_brackets : List (List ℕ) → List ℕ
in_brackets values = concat (codes "[" ∷ join_with_byte 44 values ∷ codes "]" ∷ [])

-- a value, or `null` where there is none
abbrev pub or_null : Option (List ℕ) → List ℕ
or_null None = codes "null"
or_null (Some value) = value

-- a value on a line of its own
abbrev pub as_line : List ℕ → List ℕ
as_line value = value ++ codes "\n"
