-- A text's lines, one after the other.
use Rattle.std.proofs.Common.{◌≡◌, ℕ, ◌+◌, true, false, List, [], ◌∷◌, length, Some, ◌<◌, ap, arith, refl}
use Rattle.std.specs.Iterator.{MakesProgress, item_count}
use Rattle.text_lines.specs.Lines.{content_from, is_skipped}

pub no_content : (number : ℕ) → content_from number [] ≡ []
unfolding content_from
no_content number = refl

pub content_next : (number : ℕ) (line : List ℕ) (more : List (List ℕ)) → is_skipped line ≡ false → content_from number (line ∷ more) ≡ (number, line) ∷ content_from (number + 1) more
unfolding content_from
content_next number line more h = rw h refl

pub content_skipped : (number : ℕ) (line : List ℕ) (more : List (List ℕ)) → is_skipped line ≡ true → content_from number (line ∷ more) ≡ content_from (number + 1) more
unfolding content_from
content_skipped number line more h = rw h refl

-- an iterator over a list that gave its first element has less left
pub gave_first : {A B : Type 0} (can : List B → Type 0) (old new : List B) (first : B) (item : A) → old ≡ first ∷ new → can new
    → MakesProgress {S = List B} can (item_count (λ (left : List B). left)) old (Some item) new
gave_first {B = B} can old new first item is may =
    let lengths : length old ≡ length (first ∷ new) = ap (λ (left : List B). length left) is in
    let less : length new < length old = omega (arith, lengths) in
    record { on = λ _. (may, tt, less); keeps = may; rests = λ _. tt }
