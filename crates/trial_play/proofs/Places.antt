-- Lists, place by place.
use Rattle.std.proofs.Common.{◌≡◌, ◌⊎◌, inl, inr, ℕ, zero, suc, ◌-◌, ◌==◌, ◌&&◌, Bool, true, false, List, [], ◌∷◌, length, map, slice_get, set, Option, Some, None, if◌then◌else◌, refl, sym, ◌∙◌, ap, arith, eq-eqb, eqb-true}
use Rattle.std.proofs.lemmas.Bool.{cases_Bool, true≢false}
use Rattle.trial_model.specs.Connections.{ConnectionHistory, at_number}
use Rattle.trial_play.specs.ServerLines.{changed_at}

pub some-same : {A : Type 0} (a b : A) → Some a ≡ Some b → a ≡ b
some-same a b e = cc

pub none-some : {A : Type 0} (a : A) → ◌≡◌ {A = Option A} None (Some a) → ⊥
none-some a e = cc

pub same-at : {A : Type 0} (xs : List A) (n : ℕ) (a b : A) → slice_get xs n ≡ Some a → slice_get xs n ≡ Some b → a ≡ b
same-at xs n a b p q = some-same a b (sym p ∙ q)

pub both-true : (a b : Bool) → (a && b) ≡ true → (a ≡ true) × (b ≡ true)
both-true true b e = (refl, e)
both-true false b e = absurd (true≢false (sym e))

-- two numbers that aren't equal, the other way round
pub eqb-flip : (a b : ℕ) → (a == b) ≡ false → (b == a) ≡ false
eqb-flip a b other = elim (cases_Bool (b == a)) [
  | inl same ↦ absurd (true≢false (sym (eq-eqb a b (sym (eqb-true b a same))) ∙ other))
  | inr differs ↦ differs
]

pub get-set : {A : Type 0} (xs : List A) (n k : ℕ) (y v : A) → slice_get (set xs n y) k ≡ Some v → ((k ≡ n) × (y ≡ v)) ⊎ ((k ≡ n → ⊥) × (slice_get xs k ≡ Some v))
get-set [] n k y v e = absurd (none-some v e)
get-set (x ∷ xs) zero zero y v e = inl (refl, some-same y v e)
get-set (x ∷ xs) zero (suc k) y v e = inr (λ q. (let p = q in omega arith), e)
get-set (x ∷ xs) (suc n) zero y v e = inr (λ q. (let p = q in omega arith), e)
get-set (x ∷ xs) (suc n) (suc k) y v e = elim (get-set xs n k y v e) [
  | inl there ↦ inl (ap suc there.0, there.1)
  | inr other ↦ inr (λ q. other.0 (let p = q in omega arith), other.1)
]

pub get-map : {A B : Type 0} (f : A → B) (xs : List A) (k : ℕ) (v : B) → slice_get (map f xs) k ≡ Some v → (x : A) × (slice_get xs k ≡ Some x) × (v ≡ f x)
get-map f [] k v e = absurd (none-some v e)
get-map f (x ∷ xs) zero v e = (x, refl, sym (some-same (f x) v e))
get-map f (x ∷ xs) (suc k) v e = get-map f xs k v e

pub length-changed : {A : Type 0} (f : A → A) (n : ℕ) (xs : List A) → length (changed_at f n xs) ≡ length xs
length-changed f n [] = refl
length-changed {A = A} f n (x ∷ xs) = split (n == 1) (length-changed f (n - 1) xs)
  where
    split : (b : Bool) → length (changed_at f (n - 1) xs) ≡ length xs → length (if b then f x ∷ xs else x ∷ changed_at f (n - 1) xs) ≡ length (x ∷ xs)
    split true rest = refl
    split false rest = ap suc rest

pub get-changed : {A : Type 0} (f : A → A) (n : ℕ) (xs : List A) (k : ℕ) (v : A) → slice_get (changed_at f n xs) k ≡ Some v
    → (x : A) × (slice_get xs k ≡ Some x) × (((n ≡ suc k) × (v ≡ f x)) ⊎ ((n ≡ suc k → ⊥) × (v ≡ x)))
get-changed f n [] k v e = absurd (none-some v e)
get-changed {A = A} f n (x ∷ xs) k v e = split (λ j at. get-changed f (n - 1) xs j v at) (n == 1) refl k e
  where
    split : ((j : ℕ) → slice_get (changed_at f (n - 1) xs) j ≡ Some v → (y : A) × (slice_get xs j ≡ Some y) × (((n - 1 ≡ suc j) × (v ≡ f y)) ⊎ ((n - 1 ≡ suc j → ⊥) × (v ≡ y))))
        → (b : Bool) → (n == 1) ≡ b → (k : ℕ) → slice_get (if b then f x ∷ xs else x ∷ changed_at f (n - 1) xs) k ≡ Some v
        → (y : A) × (slice_get (x ∷ xs) k ≡ Some y) × (((n ≡ suc k) × (v ≡ f y)) ⊎ ((n ≡ suc k → ⊥) × (v ≡ y)))
    split later true is zero e = (x, refl, inl (eqb-true n 1 is, sym (some-same (f x) v e)))
    split later true is (suc k) e = (v, e, inr (λ q. (let p = eqb-true n 1 is in omega (arith, p, q)), refl))
    split later false is zero e = (x, refl, inr (λ q. true≢false (sym (eq-eqb n 1 q) ∙ is), sym (some-same x v e)))
    split later false is (suc k) e = (let r = later k e in (
      r.0,
      r.1,
      (elim r.2 as (λ _. ((n ≡ suc (suc k)) × (v ≡ f r.0)) ⊎ ((n ≡ suc (suc k) → ⊥) × (v ≡ r.0))) [
        | inl there ↦ inl ((let p = there.0 in omega (arith, p)), there.1)
        | inr other ↦ inr (λ q. other.0 (omega (arith, q)), other.1)
      ]),
    ))

pub changed-set : {A : Type 0} (f : A → A) (number n : ℕ) (xs : List A) (x : A) → number ≡ suc n → slice_get xs n ≡ Some x → changed_at f number xs ≡ set xs n (f x)
changed-set f number n [] x is at = absurd (none-some x at)
changed-set f number zero (y ∷ xs) x is at = ap (λ b. if b then f y ∷ xs else y ∷ changed_at f (number - 1) xs) (eq-eqb number 1 is) ∙ ap (λ z. f z ∷ xs) (some-same y x at)
changed-set f number (suc n) (y ∷ xs) x is at = split (changed-set f (number - 1) n xs x (omega (arith, is)) at) (number == 1) refl
  where
    split : changed_at f (number - 1) xs ≡ set xs n (f x) → (b : Bool) → (number == 1) ≡ b → (if b then f y ∷ xs else y ∷ changed_at f (number - 1) xs) ≡ y ∷ set xs n (f x)
    split rest true one = absurd (let p = eqb-true number 1 one in omega (arith, p, is))
    split rest false many = ap (λ zs. y ∷ zs) rest

-- a change of one history is one of a list
pub number-changed : (f : ConnectionHistory → ConnectionHistory) (n : ℕ) (hs : List ConnectionHistory) → at_number f n hs ≡ changed_at f n hs
number-changed f n [] = refl
number-changed f n (h ∷ hs) = ap (λ rest. if n == 1 then f h ∷ hs else h ∷ rest) (number-changed f (n - 1) hs)

-- what is beside it in a list as long
pub get-beside : {A B : Type 0} (xs : List A) (ys : List B) (n : ℕ) (x : A) → length xs ≡ length ys → slice_get xs n ≡ Some x → (y : B) × (slice_get ys n ≡ Some y)
get-beside [] ys n x same at = absurd (none-some x at)
get-beside (z ∷ xs) [] n x same at = absurd (omega (arith, same))
get-beside (z ∷ xs) (y ∷ ys) zero x same at = (y, refl)
get-beside (z ∷ xs) (y ∷ ys) (suc n) x same at = get-beside xs ys n x (omega (arith, same)) at
