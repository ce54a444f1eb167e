-- Lists that hold each item once, by a test that says whether two items are the same.
use Rattle.std.specs.Prelude.{◌≡◌, ℕ, Bool, List, [], ◌∷◌, ◌++◌, slice_get, Some, if◌then◌else◌}
use Rattle.std.specs.List.{list_any}

-- the same item is in the list
abbrev pub is_listed : {A : Type 0} → (A → A → Bool) → List A → A → Bool
is_listed same list x = list_any (λ y. same y x) list

-- the list with the item after it, unless it is there already
abbrev pub add_once : {A : Type 0} → (A → A → Bool) → List A → A → List A
add_once same list x = if is_listed same list x then list else list ++ x ∷ []

-- no item is at two places
abbrev pub IsOnce : {A : Type 0} → List A → Type 0
IsOnce {A = A} list = (p q : ℕ) (x : A) → slice_get list p ≡ Some x → slice_get list q ≡ Some x → p ≡ q
