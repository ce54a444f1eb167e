-- What is left of a text after a piece of it.
use Rattle.std.proofs.Common.{◌≡◌, ℕ, ◌+◌, ◌<◌, min, List, [], ◌∷◌, ◌++◌, length, take, drop, ap, sym, ◌∙◌, refl, arith, length-drop}
use Rattle.std.proofs.lemmas.List.{take-append-drop, drop-drop}

empty : (xs : List ℕ) → length xs ≡ 0 → xs ≡ []
empty [] none = refl
empty (x ∷ xs) none = absurd (omega arith)

pub moves_on : (items left into : List ℕ) (at n room : ℕ) → left ≡ drop at items → take n into ≡ take n (drop at items) → n ≡ min room (length (drop at items)) → length into ≡ room
    → (left ≡ take n into ++ drop (at + n) items) × (n ≡ 0 → 0 < length into → drop (at + n) items ≡ [])
moves_on items left into at n room is copied count size = (
  is
      ∙ sym (take-append-drop n (drop at items))
      ∙ ap (λ (b : List ℕ). take n (drop at items) ++ b) (drop-drop n at items)
      ∙ ap (λ (b : List ℕ). b ++ drop (at + n) items) (sym copied),
  λ none some. empty (drop (at + n) items) (omega (arith, length-drop (at + n) items, length-drop at items, count, size)),
)
