-- Elements of any length (Codec 8 Extended's NX), as pairs of id and bytes.
use Rattle.std.specs.Prelude.{ℕ, ◌+◌, List, [], ◌∷◌, length, take, drop, sum_by}

-- the room that they take in a record, less their count: id and length take 4 bytes
abbrev pub nx_size : List (ℕ × List ℕ) → ℕ
nx_size elements = sum_by (λ e. 4 + length e.1) elements

-- the elements whose ids and lengths are these, and whose bytes stand one after the other
abbrev pub nx_elements : List (ℕ × ℕ) → List ℕ → List (ℕ × List ℕ)
nx_elements [] bytes = []
nx_elements (h ∷ hs) bytes = (h.0, take h.1 bytes) ∷ nx_elements hs (drop h.1 bytes)
