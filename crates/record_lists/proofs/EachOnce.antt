-- Lists that hold each item once, one item more.
use Rattle.std.proofs.Common.{◌≡◌, ◌⊎◌, inl, inr, ℕ, zero, suc, Bool, true, false, ◌||◌, if◌then◌else◌, List, [], ◌∷◌, ◌++◌, fold, length, slice_get, Some, sym, ◌∙◌, ap, refl, subst, arith, length-append, append_assoc}
use Rattle.std.proofs.lemmas.Bool.{cases_lt}
use Rattle.std.proofs.lemmas.List.{append-nil, get_or_append_left, get_or_at}
use Rattle.std.proofs.lemmas.Option.{same_Some, slice_get_within, slice_get-get_or, get_or_from_slice_get}
use Rattle.record_lists.specs.EachOnce.{is_listed, add_once, IsOnce}

-- a test that tells exactly which items are the same
pub record TellsSame {A : Type 0} (same : A → A → Bool) : Type 0 where
  pub equal : (a b : A) → same a b ≡ true → a ≡ b
  pub itself : (a : A) → same a a ≡ true

-- What is at a place of a list with one item more.

pub get-front : {A : Type 0} → (xs ys : List A) (p : ℕ) (s : A) → slice_get xs p ≡ Some s → slice_get (xs ++ ys) p ≡ Some s
get-front xs ys p s is =
    let low = slice_get_within xs p s is in
    slice_get-get_or (xs ++ ys) p s (omega (arith, length-append xs ys)) ∙ ap Some (get_or_append_left xs ys s p low ∙ get_or_from_slice_get xs p s s is)

pub get-at : {A : Type 0} → (xs : List A) (x : A) (ys : List A) → slice_get (xs ++ x ∷ ys) (length xs) ≡ Some x
get-at xs x ys = slice_get-get_or (xs ++ x ∷ ys) (length xs) x (omega (arith, length-append xs (x ∷ ys))) ∙ ap Some (get_or_at xs x ys x (length xs) refl)

pub get-last : {A : Type 0} → (xs : List A) (x : A) → slice_get (xs ++ x ∷ []) (length xs) ≡ Some x
get-last xs x = get-at xs x []

pub get-cases : {A : Type 0} → (xs : List A) (x : A) (p : ℕ) (s : A) → slice_get (xs ++ x ∷ []) p ≡ Some s → (slice_get xs p ≡ Some s) ⊎ ((p ≡ length xs) × (s ≡ x))
get-cases xs x p s is = elim (cases_lt p (length xs)) as (λ _. (slice_get xs p ≡ Some s) ⊎ ((p ≡ length xs) × (s ≡ x))) [
  | inl low ↦ inl (slice_get-get_or xs p s low ∙ ap Some (sym (get_or_append_left xs (x ∷ []) s p low) ∙ get_or_from_slice_get (xs ++ x ∷ []) p s s is))
  | inr high ↦
      let within = slice_get_within (xs ++ x ∷ []) p s is in
      let at : p ≡ length xs = omega (arith, length-append xs (x ∷ [])) in
      inr (at, same_Some s x (sym is ∙ ap (λ k. slice_get (xs ++ x ∷ []) k) at ∙ get-last xs x))
]

pub once-none : {A : Type 0} → IsOnce {A = A} []
once-none p q s at_p at_q = absurd (let low = slice_get_within [] p s at_p in omega arith)

pub once-front : {A : Type 0} → (xs ys : List A) → IsOnce (xs ++ ys) → IsOnce xs
once-front xs ys once p q s at_p at_q = once p q s (get-front xs ys p s at_p) (get-front xs ys q s at_q)

module _ {A : Type 0} (same : A → A → Bool) (tells : TellsSame same) where
  -- An item is listed exactly where it is at a place.
  pub listed-place : (list : List A) (x : A) → is_listed same list x ≡ true → (p : ℕ) × (slice_get list p ≡ Some x)
  listed-place [] x is = absurd (let never : false ≡ true = is in cc)
  listed-place (y ∷ list) x is = split (λ later. listed-place list x later) (same y x) refl
    where
      split : (is_listed same list x ≡ true → (p : ℕ) × (slice_get list p ≡ Some x)) → (b : Bool) → same y x ≡ b → (p : ℕ) × (slice_get (y ∷ list) p ≡ Some x)
      split later true here = (0, ap Some (tells.equal y x here))
      split later false other =
          let rest = later (ap (λ b. b || is_listed same list x) (sym other) ∙ is) in
          (suc rest.0, rest.1)

  or-right : (a b : Bool) → b ≡ true → (a || b) ≡ true
  or-right true b is = refl
  or-right false b is = is

  pub place-listed : (list : List A) (x : A) (p : ℕ) → slice_get list p ≡ Some x → is_listed same list x ≡ true
  place-listed [] x p is = absurd (let low = slice_get_within [] p x is in omega arith)
  place-listed (y ∷ list) x zero is =
      let P : A → Type 0 = λ z. is_listed same (z ∷ list) x ≡ true in
      subst P (sym (same_Some y x is)) (ap (λ b. b || is_listed same list x) (tells.itself x))
  place-listed (y ∷ list) x (suc p) is = or-right (same y x) (is_listed same list x) (place-listed list x p is)

  pub not-listed : (list : List A) (x : A) → ((p : ℕ) → slice_get list p ≡ Some x → ⊥) → is_listed same list x ≡ false
  not-listed list x never = split (is_listed same list x) refl
    where
      split : (b : Bool) → is_listed same list x ≡ b → is_listed same list x ≡ false
      split true is = absurd (let at = listed-place list x is in never at.0 at.1)
      split false is = is

  -- No item is there twice after one that wasn't listed.
  pub once-more : (list : List A) (x : A) → is_listed same list x ≡ false → IsOnce list → IsOnce (list ++ x ∷ [])
  once-more list x new once p q s at_p at_q = elim (get-cases list x p s at_p) as (λ _. p ≡ q) [
    | inl low_p ↦ elim (get-cases list x q s at_q) as (λ _. p ≡ q) [
      | inl low_q ↦ once p q s low_p low_q
      | inr last_q ↦ absurd (never p (low_p ∙ ap Some last_q.1))
    ]
    | inr last_p ↦ elim (get-cases list x q s at_q) as (λ _. p ≡ q) [
      | inl low_q ↦ absurd (never q (low_q ∙ ap Some last_p.1))
      | inr last_q ↦ last_p.0 ∙ sym last_q.0
    ]
  ]
    where
      never : (p : ℕ) → slice_get list p ≡ Some x → ⊥
      never p at = let known = place-listed list x p at in absurd (let no : false ≡ true = sym new ∙ known in cc)

  pub once-add : (list : List A) (x : A) → IsOnce list → IsOnce (add_once same list x)
  once-add list x once = split (is_listed same list x) refl
    where
      split : (b : Bool) → is_listed same list x ≡ b → IsOnce (add_once same list x)
      split true known = let P : Bool → Type 0 = λ b. IsOnce (if b then list else list ++ x ∷ []) in subst P (sym known) once
      split false new = let P : Bool → Type 0 = λ b. IsOnce (if b then list else list ++ x ∷ []) in subst P (sym new) (once-more list x new once)

  -- Items added in turn leave no item twice,
  pub once-all : (list more : List A) → IsOnce list → IsOnce (fold (add_once same) list more)
  once-all list [] once = once
  once-all list (x ∷ more) once = once-all (add_once same list x) more (once-add list x once)

  -- and change nothing where no item is there twice.
  pub fold-once : (before more : List A) → IsOnce (before ++ more) → fold (add_once same) before more ≡ before ++ more
  fold-once before [] once = sym (append-nil before)
  fold-once before (x ∷ more) once =
      let here : slice_get (before ++ x ∷ more) (length before) ≡ Some x = get-at before x more in
      let new : is_listed same before x ≡ false = not-listed before x (λ p at.
      let low = slice_get_within before p x at in
      let place = once p (length before) x (get-front before (x ∷ more) p x at) here in
      omega arith) in
      let one : add_once same before x ≡ before ++ x ∷ [] = ap (λ b. if b then before else before ++ x ∷ []) new in
      ap (λ (l : List A). fold (add_once same) l more) one
      ∙ fold-once (before ++ x ∷ []) more (subst (λ (l : List A). IsOnce l) (sym (append_assoc before (x ∷ []) more)) once)
      ∙ append_assoc before (x ∷ []) more
