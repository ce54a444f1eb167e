-- Sums over all views, where one of them changes or one is new.
use Rattle.std.proofs.Common.{◌≡◌, ◌≢◌, ⊎_elim, ℕ, zero, suc, ◌+◌, ◌<◌, ◌≤◌, List, [], ◌∷◌, ◌++◌, length, set, refl, sym, ap, subst, arith}
use mathlib.Core.Option.{some, some-injective, some-ne-none}
use lib.ListN.{get_elem?}
use Rattle.atomic_table.proofs.Lists.{at_set, at_snoc}
use Rattle.desk.specs.Views.{View, total}

pub at_within : {A : Type 0} (l : List A) (i : ℕ) (a : A) → get_elem? l i ≡ some a → i < length l
at_within [] i a at = absurd (some-ne-none a (sym at))
at_within (x ∷ l) zero a at = omega arith
at_within (x ∷ l) (suc i) a at = let rest = at_within l i a at in omega arith

module _ (f : View → ℕ) where
  pub total_set : (views : List View) (i : ℕ) (v w : View) → get_elem? views i ≡ some v → total f (set views i w) + f v ≡ total f views + f w
  total_set [] i v w at = absurd (some-ne-none v (sym at))
  total_set (x ∷ views) zero v w at = let same : f x ≡ f v = ap f (some-injective x v at) in omega arith
  total_set (x ∷ views) (suc i) v w at = let rest = total_set views i v w at in omega arith

  pub total_snoc : (views : List View) (v : View) → total f (views ++ v ∷ []) ≡ total f views + f v
  total_snoc [] v = omega arith
  total_snoc (x ∷ views) v = let rest = total_snoc views v in omega arith

  pub total_at : (views : List View) (i : ℕ) (v : View) → get_elem? views i ≡ some v → f v ≤ total f views
  total_at [] i v at = absurd (some-ne-none v (sym at))
  total_at (x ∷ views) zero v at = let same : f x ≡ f v = ap f (some-injective x v at) in omega arith
  total_at (x ∷ views) (suc i) v at = let rest = total_at views i v at in omega arith

  pub total_two : (views : List View) (i j : ℕ) (v w : View) → i ≢ j → get_elem? views i ≡ some v → get_elem? views j ≡ some w → f v + f w ≤ total f views
  total_two [] i j v w apart at there = absurd (some-ne-none v (sym at))
  total_two (x ∷ views) zero zero v w apart at there = absurd (apart refl)
  total_two (x ∷ views) zero (suc j) v w apart at there = let same : f x ≡ f v = ap f (some-injective x v at) in let rest = total_at views j w there in omega arith
  total_two (x ∷ views) (suc i) zero v w apart at there = let same : f x ≡ f w = ap f (some-injective x w there) in let rest = total_at views i v at in omega arith
  total_two (x ∷ views) (suc i) (suc j) v w apart at there = let rest = total_two views i j v w (λ same. apart (ap suc same)) at there in omega arith

  pub total_none : (views : List View) → ((i : ℕ) (v : View) → get_elem? views i ≡ some v → f v ≡ 0) → total f views ≡ 0
  total_none [] none = refl
  total_none (x ∷ views) none =
      let here : f x ≡ 0 = none zero x refl in
      let rest = total_none views (λ i v at. none (suc i) v at) in
      omega arith

  -- all others have none
  pub total_only : (views : List View) (i : ℕ) (v : View) → get_elem? views i ≡ some v → ((j : ℕ) (w : View) → j ≢ i → get_elem? views j ≡ some w → f w ≡ 0) → total f views ≡ f v
  total_only [] i v at none = absurd (some-ne-none v (sym at))
  total_only (x ∷ views) zero v at none =
      let same : f x ≡ f v = ap f (some-injective x v at) in
      let rest = total_none views (λ j w there. none (suc j) w (λ e. omega arith) there) in
      omega arith
  total_only (x ∷ views) (suc i) v at none =
      let here : f x ≡ 0 = none zero x (λ e. omega arith) refl in
      let rest = total_only views i v at (λ j w apart there. none (suc j) w (λ e. apart (omega arith)) there) in
      omega arith

pub total_within : (f g : View → ℕ) (views : List View) → ((i : ℕ) (v : View) → get_elem? views i ≡ some v → f v ≤ g v) → total f views ≤ total g views
total_within f g [] each = omega arith
total_within f g (x ∷ views) each =
    let here : f x ≤ g x = each zero x refl in
    let rest = total_within f g views (λ i v at. each (suc i) v at) in
    omega arith

-- Each view, after one has changed, and with one more.
pub each_set : (P : View → Type 0) (views : List View) (i : ℕ) (w : View) → ((j : ℕ) (u : View) → j ≢ i → get_elem? views j ≡ some u → P u) → P w → (j : ℕ) (u : View) → get_elem? (set views i w) j ≡ some u → P u
each_set P views i w others mine j u at =
    ⊎_elim
    (λ (x : (j ≡ i) × (w ≡ u)). subst P x.1 mine)
    (λ (x : (j ≢ i) × (get_elem? views j ≡ some u)). others j u x.0 x.1)
    (at_set views i j w u at)

pub each_snoc : (P : View → Type 0) (views : List View) (w : View) → ((j : ℕ) (u : View) → get_elem? views j ≡ some u → P u) → P w → (j : ℕ) (u : View) → get_elem? (views ++ w ∷ []) j ≡ some u → P u
each_snoc P views w others mine j u at = ⊎_elim (λ (x : get_elem? views j ≡ some u). others j u x) (λ (x : w ≡ u). subst P x mine) (at_snoc views w u j at)
