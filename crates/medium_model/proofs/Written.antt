-- A list with a range written, element by element.
use Rattle.std.proofs.Common.{◌≡◌, inl, inr, ℕ, ◌+◌, ◌-◌, ◌<◌, ◌≤◌, max, List, ◌++◌, length, get_or, take, drop, replicate, sym, ◌∙◌, ap, refl, arith, length-append, length-take, length-drop}
use Rattle.std.proofs.lemmas.List.{length-replicate, get_or_append_left, get_or-append_right, get_or-take, get_or-drop, get_or-replicate, get_or_past}
use Rattle.std.proofs.lemmas.Bool.{cases_lt}
use Rattle.medium_model.specs.Content.{filled, written}

pub length-filled : {A : Type 0} → (d : A) (n : ℕ) (xs : List A) → length (filled d n xs) ≡ n
length-filled d n xs =
    omega (arith, length-append (take n xs) (replicate (n - length xs) d), length-take n xs, length-replicate (n - length xs) d)

pub length-written : {A : Type 0} → (d : A) (at : ℕ) (ys xs : List A) → length (written d at ys xs) ≡ max (length xs) (at + length ys)
length-written d at ys xs =
    let rest = drop (at + length ys) xs in
    omega (arith, length-append (filled d at xs) (ys ++ rest), length-filled d at xs, length-append ys rest, length-drop (at + length ys) xs)

-- in front of the range
pub get_or-filled : {A : Type 0} → (d : A) (n : ℕ) (xs : List A) (k : ℕ) → k < n → get_or (filled d n xs) k d ≡ get_or xs k d
get_or-filled d n xs k below = elim (cases_lt k (length xs)) as (λ _. get_or (filled d n xs) k d ≡ get_or xs k d) [
  | inl inside ↦
      get_or_append_left (take n xs) (replicate (n - length xs) d) d k (omega (arith, length-take n xs))
      ∙ get_or-take n xs k d below
  | inr past ↦
      get_or-append_right (take n xs) (replicate (n - length xs) d) (length xs) k d (omega (arith, length-take n xs)) past
      ∙ get_or-replicate (n - length xs) (k - length xs) d d (omega arith)
      ∙ sym (get_or_past xs k d past)
]

pub get_or-written_before : {A : Type 0} → (d : A) (at : ℕ) (ys xs : List A) (k : ℕ) → k < at → get_or (written d at ys xs) k d ≡ get_or xs k d
get_or-written_before d at ys xs k below =
    get_or_append_left (filled d at xs) (ys ++ drop (at + length ys) xs) d k (omega (arith, length-filled d at xs))
    ∙ get_or-filled d at xs k below

pub get_or-written_there : {A : Type 0} → (d : A) (at : ℕ) (ys xs : List A) (k : ℕ) → k < length ys → get_or (written d at ys xs) (at + k) d ≡ get_or ys k d
get_or-written_there d at ys xs k within =
    let back : (at + k) - at ≡ k = omega arith in
    get_or-append_right (filled d at xs) (ys ++ drop (at + length ys) xs) at (at + k) d (length-filled d at xs) (omega arith)
    ∙ ap (λ i. get_or (ys ++ drop (at + length ys) xs) i d) back
    ∙ get_or_append_left ys (drop (at + length ys) xs) d k within

pub get_or-written_behind : {A : Type 0} → (d : A) (at : ℕ) (ys xs : List A) (k : ℕ) → at + length ys ≤ k → get_or (written d at ys xs) k d ≡ get_or xs k d
get_or-written_behind d at ys xs k above =
    let there : (at + length ys) + ((k - at) - length ys) ≡ k = omega arith in
    get_or-append_right (filled d at xs) (ys ++ drop (at + length ys) xs) at k d (length-filled d at xs) (omega arith)
    ∙ get_or-append_right ys (drop (at + length ys) xs) (length ys) (k - at) d refl (omega arith)
    ∙ get_or-drop (at + length ys) xs ((k - at) - length ys) d
    ∙ ap (λ i. get_or xs i d) there
