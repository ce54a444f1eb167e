-- What a seat holds.
use Rattle.std.proofs.Common.{◌≡◌, ℕ, List, [], ◌∷◌, Some, sym, ap, ◌∙◌}
use Rattle.atomic_table.specs.Table.{rest}

pub held-one : {S : Type 0} (held : List (ℕ × S)) (x : S) → held ≡ (0, x) ∷ [] → held ≡ (0, x) ∷ rest held
held-one {S = S} held x is = is ∙ sym (ap (λ (l : List (ℕ × S)). (0, x) ∷ rest l) is)

pub some-same : {S : Type 0} (a b : S) → Some a ≡ Some b → a ≡ b
some-same a b is = cc
