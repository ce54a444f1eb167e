-- Steps of a loop that appends one piece of a text after the other.
use Rattle.std.proofs.Common.{◌≡◌, ◌<◌, ◌≤◌, ◌+◌, ℕ, List, ◌∷◌, ◌++◌, Some, length, drop, sym, ap, ◌∙◌, append_assoc, append-nil}
use Rattle.std.proofs.lemmas.List.{at_drop_more, drop_all}
use Rattle.std.proofs.lemmas.Option.{get_or_from_slice_get}
use Rattle.std.specs.Prelude.{slice_get}
use Rattle.std.specs.List.{flat_map}

-- a piece was appended, with which the rest began
pub piece_appended : (text text' piece rest rest' whole : List ℕ) → text' ≡ text ++ piece → rest ≡ piece ++ rest' → text ++ rest ≡ whole → text' ++ rest' ≡ whole
piece_appended text text' piece rest rest' whole appended begins so_far =
    ap (λ l. l ++ rest') appended ∙ append_assoc text piece rest' ∙ ap (λ l. text ++ l) (sym begins) ∙ so_far

-- what a definition makes of the rest of a list, with the item at its front
pub at_drop_got : {X Y : Type 0} (F : List X → Y) (xs : List X) (i : ℕ) (x : X) → i < length xs → slice_get xs i ≡ Some x → F (drop i xs) ≡ F (x ∷ drop (i + 1) xs)
at_drop_got F xs i x inside got = at_drop_more F xs i x inside ∙ ap (λ y. F (y ∷ drop (i + 1) xs)) (get_or_from_slice_get xs i x x got)

-- no piece is left
pub none_left : {X : Type 0} (f : X → List ℕ) (xs : List X) (i : ℕ) (text whole : List ℕ) → length xs ≤ i → text ++ flat_map f (drop i xs) ≡ whole → text ≡ whole
none_left f xs i text whole past e = sym (append-nil text) ∙ ap (λ l. text ++ flat_map f l) (sym (drop_all i xs past)) ∙ e
