-- The connections of a trial, and the places of those that may go on.
use Rattle.std.proofs.Common.{◌≡◌, ◌⊎◌, inl, inr, ◌==◌, ◌+◌, ◌-◌, ◌<◌, ◌≤◌, ℕ, zero, suc, Bool, true, false, List, [], ◌∷◌, ◌++◌, length, drop, get_or, map, set, slice_get, Some, if◌then◌else◌, refl, sym, ◌∙◌, ap, subst, arith, eqb-true}
use Rattle.std.specs.List.{Contains}
use Rattle.std.proofs.lemmas.Bool.{true≢false}
use Rattle.std.proofs.lemmas.List.{at_drop_all, at_drop_more}
use Rattle.std.proofs.lemmas.Option.{none-some, same_Some}
use Rattle.trial_model.specs.declared.outcome.ServerEnd.TheVariants as Server
use Rattle.trial_play.specs.ServerLines.{changed_at}
use Rattle.trial_wire.specs.Connections.{Connection, cut_by_power}
use Rattle.trial_loop.specs.Opened.{AreAt}

-- One more.

get-push : {A : Type 0} (xs : List A) (y x : A) (n : ℕ) → slice_get (xs ++ y ∷ []) n ≡ Some x → (slice_get xs n ≡ Some x) ⊎ ((n ≡ length xs) × (y ≡ x))
get-push [] y x zero at = inr (refl, same_Some y x at)
get-push [] y x (suc n) at = absurd (none-some x at)
get-push (z ∷ xs) y x zero at = inl at
get-push (z ∷ xs) y x (suc n) at = elim (get-push xs y x n at) as (λ _. (slice_get xs n ≡ Some x) ⊎ ((suc n ≡ suc (length xs)) × (y ≡ x))) [
  | inl before ↦ inl before
  | inr last ↦ inr (ap suc last.0, last.1)
]

pub at-more : (places more : List ℕ) (ws : List Connection) → AreAt places ws → ((n : ℕ) → Contains places n → Contains more n) → AreAt more ws
at-more places more ws are keeps = λ n w at on. keeps n (are n w at on)

pub at-push : (places more : List ℕ) (ws : List Connection) (v : Connection) → AreAt places ws → ((n : ℕ) → Contains places n → Contains more n) → (v.going ≡ true → Contains more (length ws)) → AreAt more (ws ++ v ∷ [])
at-push places more ws v are keeps new = λ n w at on.
    elim (get-push ws v w n at) as (λ _. Contains more n) [
      | inl before ↦ keeps n (are n w before on)
      | inr last ↦ subst (Contains more) (sym last.0) (new (ap (λ (x : Connection). x.going) last.1 ∙ on))
    ]

-- Another one at a place.

get-set : {A : Type 0} (xs : List A) (n k : ℕ) (y x : A) → slice_get (set xs n y) k ≡ Some x → ((k ≡ n) × (y ≡ x)) ⊎ (slice_get xs k ≡ Some x)
get-set [] n k y x at = absurd (none-some x at)
get-set (z ∷ xs) zero zero y x at = inl (refl, same_Some y x at)
get-set (z ∷ xs) zero (suc k) y x at = inr at
get-set (z ∷ xs) (suc n) zero y x at = inr at
get-set (z ∷ xs) (suc n) (suc k) y x at = elim (get-set xs n k y x at) as (λ _. ((suc k ≡ suc n) × (y ≡ x)) ⊎ (slice_get xs k ≡ Some x)) [
  | inl here ↦ inl (ap suc here.0, here.1)
  | inr other ↦ inr other
]

pub at-set : (places : List ℕ) (ws : List Connection) (n : ℕ) (v w : Connection) → slice_get ws n ≡ Some w → (v.going ≡ true → w.going ≡ true) → AreAt places ws → AreAt places (set ws n v)
at-set places ws n v w there over are = λ k x at on.
    elim (get-set ws n k v x at) as (λ _. Contains places k) [
      | inl here ↦ subst (Contains places) (sym here.0) (are n w there (over (ap (λ (y : Connection). y.going) here.1 ∙ on)))
      | inr other ↦ are k x other on
    ]

-- A number is one more than a place, or of none.

pub changed-none : {A : Type 0} (change : A → A) (n : ℕ) (xs : List A) → (n ≡ 0) ⊎ (length xs < n) → changed_at change n xs ≡ xs
changed-none change n [] none = refl
changed-none change n (x ∷ xs) none =
    split (n == 1) refl (changed-none change (n - 1) xs (elim none as (λ _. (n - 1 ≡ 0) ⊎ (length xs < n - 1)) [ inl low ↦ inl (omega arith) | inr high ↦ inr (omega arith) ]))
  where
    split : (b : Bool) → (n == 1) ≡ b → changed_at change (n - 1) xs ≡ xs → (if b then change x ∷ xs else x ∷ changed_at change (n - 1) xs) ≡ x ∷ xs
    split true is rest = absurd (let one = eqb-true n 1 is in elim none as (λ _. ⊥) [ inl low ↦ omega arith | inr high ↦ omega arith ])
    split false is rest = ap (λ ys. x ∷ ys) rest

pub changed-set : {A : Type 0} (change : A → A) (m n : ℕ) (xs : List A) (x : A) → m ≡ n + 1 → n < length xs → x ≡ get_or xs n x → changed_at change m xs ≡ set xs n (change x)
changed-set change m n [] x is low at = refl
changed-set change m zero (y ∷ ys) x is low at =
    subst (λ (k : ℕ). changed_at change k (y ∷ ys) ≡ change x ∷ ys) (let one : 1 ≡ m = omega arith in one) (ap (λ z. change z ∷ ys) (sym at))
changed-set change m (suc n) (y ∷ ys) x is low at = split (m == 1) refl (changed-set change (m - 1) n ys x (omega arith) (omega arith) at)
  where
    split : (b : Bool) → (m == 1) ≡ b → changed_at change (m - 1) ys ≡ set ys n (change x) → (if b then change y ∷ ys else y ∷ changed_at change (m - 1) ys) ≡ y ∷ set ys n (change x)
    split true one rest = absurd (let first = eqb-true m 1 one in omega arith)
    split false one rest = ap (λ zs. y ∷ zs) rest

-- Cut, one place after the other.

abbrev pub cut_place : ℕ → List Connection → List Connection
cut_place n [] = []
cut_place zero (w ∷ ws) = cut_by_power w ∷ ws
cut_place (suc n) (w ∷ ws) = w ∷ cut_place n ws

abbrev pub cut_places : List ℕ → List Connection → List Connection
cut_places [] ws = ws
cut_places (n ∷ places) ws = cut_places places (cut_place n ws)

pub cut_place-set : (n : ℕ) (ws : List Connection) (w : Connection) → n < length ws → w ≡ get_or ws n w → set ws n (cut_by_power w) ≡ cut_place n ws
cut_place-set n [] w low at = refl
cut_place-set zero (v ∷ ws) w low at = ap (λ x. cut_by_power x ∷ ws) at
cut_place-set (suc n) (v ∷ ws) w low at = ap (λ xs. v ∷ xs) (cut_place-set n ws w (omega arith) at)

pub cut_place-past : (n : ℕ) (ws : List Connection) → length ws ≤ n → cut_place n ws ≡ ws
cut_place-past n [] high = refl
cut_place-past zero (v ∷ ws) high = absurd (omega arith)
cut_place-past (suc n) (v ∷ ws) high = ap (λ xs. v ∷ xs) (cut_place-past n ws (omega arith))

-- one that is cut is over
cut-over : (w : Connection) → (cut_by_power w).going ≡ false
cut-over w = by w.going refl
  where
    by : (g : Bool) → w.going ≡ g → (if w.going then record { log = record w.log { server = Server.Restart }; going = false } else w).going ≡ false
    by true is = ap (λ (g : Bool). (let x : Connection = if g then record { log = record w.log { server = Server.Restart }; going = false } else w in x.going)) is
    by false is = ap (λ (g : Bool). (let x : Connection = if g then record { log = record w.log { server = Server.Restart }; going = false } else w in x.going)) is ∙ is

-- and one that is over stays as it is
over-same : (w : Connection) → w.going ≡ false → cut_by_power w ≡ w
over-same w off = ap (λ (g : Bool). (let x : Connection = if g then record { log = record w.log { server = Server.Restart }; going = false } else w in x)) off

cut-twice : (n : ℕ) (ws : List Connection) → map cut_by_power (cut_place n ws) ≡ map cut_by_power ws
cut-twice n [] = refl
cut-twice zero (w ∷ ws) = ap (λ x. x ∷ map cut_by_power ws) (over-same (cut_by_power w) (cut-over w))
cut-twice (suc n) (w ∷ ws) = ap (λ xs. cut_by_power w ∷ xs) (cut-twice n ws)

contains-other : (n k : ℕ) (places : List ℕ) → Contains (n ∷ places) k → (k ≡ n → ⊥) → Contains places k
contains-other n k places (zero, low, is) other = absurd (other (sym is))
contains-other n k places (suc i, low, is) other = (i, omega arith, is)

-- one that goes on after a cut went on before it, and is at another place
cut-at : (n k : ℕ) (ws : List Connection) (v : Connection) → slice_get (cut_place n ws) k ≡ Some v → v.going ≡ true → (slice_get ws k ≡ Some v) × (k ≡ n → ⊥)
cut-at n k [] v at on = absurd (none-some v at)
cut-at zero zero (w ∷ ws) v at on = absurd (true≢false (sym on ∙ (ap (λ (x : Connection). x.going) (sym (same_Some (cut_by_power w) v at)) ∙ cut-over w)))
cut-at zero (suc k) (w ∷ ws) v at on = (at, λ same. omega arith)
cut-at (suc n) zero (w ∷ ws) v at on = (at, λ same. omega arith)
cut-at (suc n) (suc k) (w ∷ ws) v at on = let more = cut-at n k ws v at on in (more.0, λ same. more.1 (omega arith))

none-on : (ws : List Connection) → AreAt [] ws → map cut_by_power ws ≡ ws
none-on [] are = refl
none-on (w ∷ ws) are = λ i. over-same w (off w.going refl) i ∷ none-on ws (λ n v at on. let low = (are (suc n) v at on).1 in absurd (omega arith)) i
  where
    off : (g : Bool) → w.going ≡ g → w.going ≡ false
    off true is = absurd (let low = (are zero w refl is).1 in omega arith)
    off false is = is

-- cut at all places where one may go on, all are cut
pub cut-all : (places : List ℕ) (ws : List Connection) → AreAt places ws → cut_places places ws ≡ map cut_by_power ws
cut-all [] ws are = sym (none-on ws are)
cut-all (n ∷ places) ws are =
    cut-all places (cut_place n ws) (λ k v at on. let before = cut-at n k ws v at on in contains-other n k places (are k v before.0 on) before.1) ∙ cut-twice n ws

-- one place more, and the last
pub cutting-next : (places : List ℕ) (i : ℕ) (ws vs first : List Connection) → i < length places → vs ≡ cut_place (get_or places i 0) ws → cut_places (drop i places) ws ≡ cut_places places first
    → cut_places (drop (i + 1) places) vs ≡ cut_places places first
cutting-next places i ws vs first low cut so_far = ap (cut_places (drop (i + 1) places)) cut ∙ (sym (at_drop_more (λ (ps : List ℕ). cut_places ps ws) places i 0 low) ∙ so_far)

pub cutting-end : (places : List ℕ) (i : ℕ) (ws first : List Connection) → length places ≤ i → AreAt places first → cut_places (drop i places) ws ≡ cut_places places first → ws ≡ map cut_by_power first
cutting-end places i ws first high are so_far = sym (at_drop_all (λ (ps : List ℕ). cut_places ps ws) places i high) ∙ (so_far ∙ cut-all places first are)

get-map-off : (n : ℕ) (ws : List Connection) (v : Connection) → slice_get (map cut_by_power ws) n ≡ Some v → v.going ≡ false
get-map-off n [] v at = absurd (none-some v at)
get-map-off zero (w ∷ ws) v at = ap (λ (x : Connection). x.going) (sym (same_Some (cut_by_power w) v at)) ∙ cut-over w
get-map-off (suc n) (w ∷ ws) v at = get-map-off n ws v at

-- then none goes on
pub cut-at-none : (places : List ℕ) (ws : List Connection) → AreAt places (map cut_by_power ws)
cut-at-none places ws = λ n v at on. absurd (true≢false (sym on ∙ get-map-off n ws v at))
