-- A list is printed in brackets.
use Rattle.std.proofs.Common.{◌≡◌, ℕ, List, [], ◌∷◌, ◌++◌, map, true, false, refl, ap, sym, ◌∙◌, append_assoc}
use Rattle.std.specs.List.{AllByRecursion, flat_map, join_with_byte}
use Rattle.json.specs.Print.{print_from}
use Rattle.json.specs.Token.{Token, end_array}
use Rattle.show_lines.specs.Json.{in_brackets}
use Rattle.show_lines.specs.Tokens.{list_tokens}

-- each value is printed as its text, and as such an element of a list
pub record IsPrinted {X : Type 0} (tokens : X → List Token) (text : X → List ℕ) (x : X) : Type 0 where
  pub first : (rest : List Token) → print_from false (tokens x ++ rest) ≡ text x ++ print_from true rest
  pub later : (rest : List Token) → print_from true (tokens x ++ rest) ≡ 44 ∷ (text x ++ print_from true rest)

module _ {X : Type 0} (tokens : X → List Token) (text : X → List ℕ) where
  -- the elements after the first one
  more_printed : (x : X) (xs : List X) (rest : List Token) → AllByRecursion (IsPrinted tokens text) xs
      → text x ++ print_from true (flat_map tokens xs ++ end_array ∷ rest) ≡ join_with_byte 44 (text x ∷ map text xs) ++ 93 ∷ print_from true rest
  unfolding print_from
  more_printed x [] rest each = refl
  more_printed x (y ∷ ys) rest each =
      let next = ap (print_from true) (append_assoc (tokens y) (flat_map tokens ys) (end_array ∷ rest)) ∙ each.0.later (flat_map tokens ys ++ end_array ∷ rest) ∙ ap (λ t. 44 ∷ t) (more_printed y ys rest each.1) in
      ap (λ t. text x ++ t) next ∙ sym (append_assoc (text x) (44 ∷ join_with_byte 44 (text y ∷ map text ys)) (93 ∷ print_from true rest))

  ended : (xs : List X) (rest : List Token) → (flat_map tokens xs ++ end_array ∷ []) ++ rest ≡ flat_map tokens xs ++ end_array ∷ rest
  ended xs rest = append_assoc (flat_map tokens xs) (end_array ∷ []) rest

  pub list_printed : (xs : List X) (rest : List Token) → AllByRecursion (IsPrinted tokens text) xs
      → print_from false (list_tokens tokens xs ++ rest) ≡ in_brackets (map text xs) ++ print_from true rest
  unfolding print_from
  list_printed [] rest each = refl
  list_printed (x ∷ xs) rest each =
      let begun = ap (print_from false) (ended (x ∷ xs) rest ∙ append_assoc (tokens x) (flat_map tokens xs) (end_array ∷ rest)) ∙ each.0.first (flat_map tokens xs ++ end_array ∷ rest) ∙ more_printed x xs rest each.1 in
      ap (λ t. 91 ∷ t) (begun ∙ sym (append_assoc (join_with_byte 44 (text x ∷ map text xs)) (93 ∷ []) (print_from true rest)))
