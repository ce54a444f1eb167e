-- A file read piece by piece.
use Rattle.std.proofs.Common.{◌≡◌, ℕ, ◌+◌, ◌-◌, ◌≤◌, List, ◌++◌, length, take, drop, Option, Some, None, sym, ◌∙◌, ap, subst, arith, length-append, length-take}
use Rattle.std.proofs.lemmas.List.{take-take, take-append-drop, drop-take}
use Rattle.medium_model.specs.Content.{Content}
use Rattle.medium_model.specs.State.{IfTold}

take-more : (m n : ℕ) (xs : List ℕ) → take m xs ++ take n (drop m xs) ≡ take (m + n) xs
take-more m n xs =
    ap (λ (l : List ℕ). l ++ take n (drop m xs)) (sym (take-take m (m + n) xs (omega arith)))
    ∙ ap (λ (l : List ℕ). take m (take (m + n) xs) ++ l) (sym (drop-take m n xs))
    ∙ take-append-drop m (take (m + n) xs)

-- one piece more
pub read-more : (o now : Option Content) (file piece more : List ℕ) (at count : ℕ) → IfTold o (λ c. file ≡ take (length file) c.reads) → now ≡ o → at ≡ length file → count ≤ length piece
    → IfTold now (λ c. take count piece ≡ take count (drop at c.reads)) → more ≡ file ++ take count piece → IfTold o (λ c. more ≡ take (length more) c.reads)
read-more None now file piece more at count was same place within bytes is = tt
read-more (Some c) now file piece more at count was same place within bytes is =
    let P : Option Content → Type 0 = λ o. IfTold o (λ c. take count piece ≡ take count (drop at c.reads)) in
    let size : length more ≡ length file + count = ap length is ∙ omega (arith, length-append file (take count piece), length-take count piece) in
    is
    ∙ ap (λ (l : List ℕ). l ++ take count piece) was
    ∙ ap (λ (l : List ℕ). take (length file) c.reads ++ l) (subst P same bytes ∙ ap (λ k. take count (drop k c.reads)) place)
    ∙ take-more (length file) count c.reads ∙ ap (λ k. take k c.reads) (sym size)
