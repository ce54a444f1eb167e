-- What is in lists of connections, of calls and of entries.
use Rattle.std.proofs.Common.{◌≡◌, inl, inr, ℕ, zero, suc, ◌+◌, ◌==◌, ◌<◌, List, [], ◌∷◌, map, Bool, true, false, if◌then◌else◌, refl, sym, ap, subst, arith}
use Rattle.std.proofs.lemmas.Bool.Decides.{nat_tests}
use Rattle.shelf.specs.Calls.{Brought}
use Rattle.shelf.specs.Entries.{Entry, entry, times, kept_if, all_brought, calls_of}
use Rattle.shelf.specs.Histories.{In}
use Rattle.shelf.proofs.Members.{in-append, in-left, in-right}
use Rattle.server_loop.specs.Connections.{Connection, brought_by_one, brought_in}

pub in-map : {X Y : Type 0} (f : X → Y) (xs : List X) (x : X) → In xs x → In (map f xs) (f x)
in-map f [] x is = absurd is
in-map f (y ∷ xs) x (inl here) = inl (ap f here)
in-map f (y ∷ xs) x (inr there) = inr (in-map f xs x there)

pub in-mapped : {X Y : Type 0} (f : X → Y) (xs : List X) (y : Y) → In (map f xs) y → (x : X) × In xs x × (f x ≡ y)
in-mapped f [] y is = absurd is
in-mapped f (x ∷ xs) y (inl here) = (x, inl refl, here)
in-mapped f (x ∷ xs) y (inr there) = let rest = in-mapped f xs y there in (rest.0, inr rest.1, rest.2)

module _ {L : Type 0} where
  -- each call is one of a connection's
  pub in-brought : (cs : List (Connection L)) (b : Brought) → In (brought_in cs) b → (c : Connection L) × In cs c × In (brought_by_one c) b
  in-brought [] b is = absurd is
  in-brought (c ∷ cs) b is = elim (in-append (brought_by_one c) (brought_in cs) b is) as (λ _. (x : Connection L) × In (c ∷ cs) x × In (brought_by_one x) b) [
    | inl first ↦ (c, inl refl, first)
    | inr later ↦ (let rest = in-brought cs b later in (rest.0, inr rest.1, rest.2))
  ]

  pub brought-of : (cs : List (Connection L)) (c : Connection L) (b : Brought) → In cs c → In (brought_by_one c) b → In (brought_in cs) b
  brought-of [] c b one is = absurd one
  brought-of (x ∷ cs) c b (inl here) is = in-left (brought_by_one x) (brought_in cs) b (subst (λ (z : Connection L). In (brought_by_one z) b) (sym here) is)
  brought-of (x ∷ cs) c b (inr there) is = in-right (brought_by_one x) (brought_in cs) b (brought-of cs c b there is)

-- its own number is among one
pub times-own : (n : ℕ) → 0 < times n (n ∷ [])
times-own n = let same : (n == n) ≡ true = grind (arith, nat_tests) in subst (λ (b : Bool). 0 < (if b then 1 else 0) + 0) (sym same) (omega arith)

-- a number among one is this one
pub times-one : (m n : ℕ) → 0 < times m (n ∷ []) → m ≡ n
times-one m n some = split (m == n) refl
  where
    split : (b : Bool) → (m == n) ≡ b → m ≡ n
    split true is = grind (arith, nat_tests, is)
    split false is = absurd (let none : 0 < (if false then 1 else 0) + 0 = subst (λ (b : Bool). 0 < (if b then 1 else 0) + 0) is some in omega arith)

-- the calls under one number are entries of this number
pub own-entries : (n : ℕ) (log : List Entry) → calls_of n log ≡ map (entry n) (all_brought (calls_of n log))
own-entries n [] = refl
own-entries n (e ∷ log) = split (times e.seat (n ∷ [])) refl (own-entries n log)
  where
    split : (k : ℕ) → times e.seat (n ∷ []) ≡ k → calls_of n log ≡ map (entry n) (all_brought (calls_of n log)) → kept_if k e (calls_of n log) ≡ map (entry n) (all_brought (kept_if k e (calls_of n log)))
    split zero is rest = rest
    split (suc k) is rest =
        let own : e.seat ≡ n = times-one e.seat n (omega (arith, is)) in
        λ i. entry (own i) e.brought ∷ rest i
