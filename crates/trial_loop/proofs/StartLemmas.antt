-- What a trial begins with.
use Rattle.std.proofs.Common.{◌≡◌, ◌==◌, ◌<◌, ◌≤◌, ◌||◌, ℕ, zero, suc, Bool, true, false, arith, List, [], ◌∷◌, ◌++◌, length, length-append, take, get_or, drop, All, refl, sym, ap, subst, ◌∙◌, if◌then◌else◌}
use Rattle.std.specs.Prelude.{slice_get, Some}
use Rattle.std.specs.List.{AllByRecursion, AllZip}
use Rattle.std.proofs.lemmas.Bool.{eqb-true}
use Rattle.journey_script.specs.Laws.{AreDistinct, is_device}
use Rattle.session_core.specs.Knowing.{holds}
use Rattle.trial_model.specs.Script.{Device, is_known}

-- ---- which devices are known
-- the IMEIs of the devices that are marked
abbrev pub marked : List Device → List ℕ
marked [] = []
marked (d ∷ ds) = if d.known then d.imei ∷ marked ds else marked ds

both_false : (a b : Bool) → (a || b) ≡ false → (a ≡ false) × (b ≡ false)
both_false true b h = absurd (cc)
both_false false b h = (refl, h)

none_marked : (ds : List Device) (imei : ℕ) → is_device imei ds ≡ false → holds (marked ds) imei ≡ false
none_marked [] imei none = refl
none_marked (d ∷ ds) imei none =
    let p = both_false (d.imei == imei) (is_device imei ds) none in
    by d.known p.0 (none_marked ds imei p.1)
  where
    by : (k : Bool) → (d.imei == imei) ≡ false → holds (marked ds) imei ≡ false → holds (if k then d.imei ∷ marked ds else marked ds) imei ≡ false
    by true other rest = ap (λ (b : Bool). b || holds (marked ds) imei) other ∙ rest
    by false other rest = rest

pub holds-marked : (ds : List Device) (imei : ℕ) → AreDistinct ds → holds (marked ds) imei ≡ is_known imei ds
holds-marked [] imei apart = refl
holds-marked (d ∷ ds) imei apart = by d.known (d.imei == imei) refl (holds-marked ds imei apart.1)
  where
    by : (k b : Bool) → (d.imei == imei) ≡ b → holds (marked ds) imei ≡ is_known imei ds → holds (if k then d.imei ∷ marked ds else marked ds) imei ≡ (if b then k else is_known imei ds)
    by true true at rest = ap (λ (b : Bool). b || holds (marked ds) imei) at
    by true false at rest = ap (λ (b : Bool). b || holds (marked ds) imei) at ∙ rest
    by false true at rest = none_marked ds imei (ap (λ (i : ℕ). is_device i ds) (sym (eqb-true d.imei imei at)) ∙ apart.0)
    by false false at rest = rest

pub marked-end : (ds : List Device) (k : ℕ) → length ds ≤ k → marked (drop k ds) ≡ []
marked-end [] zero past = refl
marked-end [] (suc k) past = refl
marked-end (d ∷ ds) zero past = absurd (omega (arith, past))
marked-end (d ∷ ds) (suc k) past = marked-end ds k (omega (arith, past))

-- ---- the sides, one after the other
-- one side more
pub next-side : {A B : Type 0} (R : A → B → Type 0) (xs : List A) (ys : List B) (x : A) (y : B) → AllZip R (take (length ys) xs) ys → length ys < length xs → x ≡ get_or xs (length ys) x → R x y
    → AllZip R (take (length (ys ++ y ∷ [])) xs) (ys ++ y ∷ [])
next-side R [] ys x y all below is here = absurd (omega (arith, below))
next-side R (z ∷ xs) [] x y all below is here = (subst (λ w. R w y) is here, tt)
next-side R (z ∷ xs) (w ∷ ys) x y all below is here = (all.0, next-side R xs ys x y all.1 (omega (arith, below)) is here)

-- the one after a front of a list
pub in-middle : {A : Type 0} (P : A → Type 0) (front : List A) (x : A) (back xs : List A) → front ++ x ∷ back ≡ xs → All P xs → P x
in-middle {A = A} P front x back xs is all = at front (subst (All P) (sym is) all)
  where
    long : (front : List A) → length front < length (front ++ x ∷ back)
    long front = omega (arith, length-append front (x ∷ back))

    middle : (front : List A) → get_or (front ++ x ∷ back) (length front) x ≡ x
    middle [] = refl
    middle (y ∷ ys) = middle ys

    at : (front : List A) → All P (front ++ x ∷ back) → P x
    at front all = subst P (middle front) (all (length front) x (long front))

pub one-more : {A : Type 0} (front : List A) (x : A) (back xs : List A) → front ++ x ∷ back ≡ xs → length front < length xs
one-more {A = A} front x back xs is = omega (arith, ap (λ (l : List A). length l) is, length-append front (x ∷ back))

-- what holds of each, by its place
pub at-place : {A : Type 0} (P : A → Type 0) (xs : List A) → AllByRecursion P xs → (n : ℕ) (x : A) → slice_get xs n ≡ Some x → P x
at-place P [] all n x at = absurd (cc)
at-place P (y ∷ ys) all zero x at = let is : y ≡ x = cc in subst P is all.0
at-place P (y ∷ ys) all (suc n) x at = at-place P ys all.1 n x at
