-- Links moved from the end of one list to the front of another.
use Rattle.std.proofs.Common.{◌≡◌, ℕ, ◌+◌, ◌≤◌, List, [], ◌∷◌, ◌++◌, length, sym, ap, ◌∙◌, append_assoc, length-append, arith}

pub moved : {X : Type 0} (all links left coming now : List X) (x : X) → links ≡ left ++ x ∷ [] → now ≡ x ∷ coming → links ++ coming ≡ all → left ++ now ≡ all
moved all links left coming now x cut put same = ap (λ l. left ++ l) put ∙ (sym (append_assoc left (x ∷ []) coming) ∙ (ap (λ l. l ++ coming) (sym cut) ∙ same))

pub moved-room : {X : Type 0} (links left coming now : List X) (x : X) (room : ℕ) → links ≡ left ++ x ∷ [] → now ≡ x ∷ coming → length links + length coming ≤ room → length left + length now ≤ room
moved-room links left coming now x room cut put within =
    let before = ap (λ l. length l) cut ∙ length-append left (x ∷ []) in
    let after = ap (λ l. length l) put in
    omega arith
