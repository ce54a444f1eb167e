-- Which records a list has after a history, and which calls of a history are under some numbers.
use Rattle.std.proofs.Common.{◌≡◌, ◌⊎◌, inl, inr, ℕ, zero, suc, ◌+◌, ◌==◌, ◌<◌, ◌≤◌, Bool, true, false, List, [], ◌∷◌, ◌++◌, length, map, slice_get, Some, Ok, Err, if◌then◌else◌, sym, ◌∙◌, ap, refl, subst, arith}
use Rattle.std.proofs.lemmas.Bool.Decides.{nat_tests}
use Rattle.std.proofs.lemmas.Option.{same_Some, slice_get_within}
use Rattle.avl_values.specs.Record.{Record}
use Rattle.shelf.specs.Archive.{StoredValue, stored, has, admitted, fresh, ArePlaces, Begins}
use Rattle.shelf.specs.Admits.{Answer, list_after, down_after, Fits}
use Rattle.shelf.specs.Calls.{Brought, replay, IsLegal}
use Rattle.shelf.specs.Histories.{In, HasPlaces}
use Rattle.shelf.specs.Entries.{Entry, times, kept_if, calls_by, counting}
use Rattle.shelf.proofs.Leaving.{admitted-fresh}
use Rattle.shelf.proofs.Stages.{begins-self, begins-then}

-- Members of lists.

pub in-left : {X : Type 0} → (xs ys : List X) (x : X) → In xs x → In (xs ++ ys) x
in-left [] ys x is = absurd is
in-left (z ∷ xs) ys x (inl here) = inl here
in-left (z ∷ xs) ys x (inr there) = inr (in-left xs ys x there)

pub in-right : {X : Type 0} → (xs ys : List X) (x : X) → In ys x → In (xs ++ ys) x
in-right [] ys x is = is
in-right (z ∷ xs) ys x is = inr (in-right xs ys x is)

pub in-append : {X : Type 0} → (xs ys : List X) (x : X) → In (xs ++ ys) x → In xs x ⊎ In ys x
in-append [] ys x is = inr is
in-append (z ∷ xs) ys x (inl here) = inl (inl here)
in-append {X = X} (z ∷ xs) ys x (inr there) = elim (in-append xs ys x there) as (λ _. In (z ∷ xs) x ⊎ In ys x) [ inl first ↦ inl (inr first) | inr last ↦ inr last ]

pub in-place : {X : Type 0} → (xs : List X) (p : ℕ) (x : X) → slice_get xs p ≡ Some x → In xs x
in-place [] p x is = absurd (let low = slice_get_within [] p x is in omega arith)
in-place (y ∷ xs) zero x is = inl (same_Some y x is)
in-place (y ∷ xs) (suc p) x is = inr (in-place xs p x is)

-- Members of a record list.

in-stored : (imei : ℕ) (rs : List Record) (v : StoredValue) → In (map (stored imei) rs) v → (v.imei ≡ imei) × In rs v.rec
in-stored imei [] v is = absurd is
in-stored imei (r ∷ rs) v (inl here) = (ap (λ (s : StoredValue). s.imei) (sym here), inl (ap (λ (s : StoredValue). s.rec) here))
in-stored imei (r ∷ rs) v (inr there) = let rest = in-stored imei rs v there in (rest.0, inr rest.1)

in-fresh : (list : List StoredValue) (imei : ℕ) (rs : List Record) (r : Record) → In (fresh list imei rs) r → In rs r
in-fresh list imei [] r is = absurd is
in-fresh list imei (x ∷ rs) r is = split (has list imei x) (in-fresh list imei rs r) (in-fresh (list ++ stored imei x ∷ []) imei rs r) is
  where
    split : (b : Bool) → (In (fresh list imei rs) r → In rs r) → (In (fresh (list ++ stored imei x ∷ []) imei rs) r → In rs r)
        → In (if b then fresh list imei rs else x ∷ fresh (list ++ stored imei x ∷ []) imei rs) r → In (x ∷ rs) r
    split true known new is = inr (known is)
    split false known new (inl here) = inl here
    split false known new (inr there) = inr (new there)

pub in-admitted : (list : List StoredValue) (imei : ℕ) (rs : List Record) (v : StoredValue) → In (admitted list imei rs) v → In list v ⊎ ((v.imei ≡ imei) × In rs v.rec)
in-admitted list imei rs v is =
    let P : List StoredValue → Type 0 = λ l. In l v in
    elim (in-append list (map (stored imei) (fresh list imei rs)) v (subst P (admitted-fresh list imei rs) is)) as (λ _. In list v ⊎ ((v.imei ≡ imei) × In rs v.rec)) [
      | inl old ↦ inl old
      | inr new ↦ (let at = in-stored imei (fresh list imei rs) v new in inr (at.0, in-fresh list imei rs v.rec at.1))
    ]

in-after : (list : List StoredValue) (imei : ℕ) (rs : List Record) (answer : Answer) (v : StoredValue) → In (list_after list imei rs answer) v → In list v ⊎ ((v.imei ≡ imei) × In rs v.rec)
in-after list imei rs (Ok places) v is = in-admitted list imei rs v is
in-after list imei rs (Err fault) v is = inl is

-- a record was there before, or a call brought it
pub record IsBrought (bs : List Brought) (v : StoredValue) : Type 0 where
  pub call : Brought
  pub made : In bs call
  pub device : v.imei ≡ call.imei
  pub has : In call.records v.rec

pub in-replay : (list : List StoredValue) (bs : List Brought) (v : StoredValue) → In (replay list bs) v → In list v ⊎ IsBrought bs v
in-replay list [] v is = inl is
in-replay list (b ∷ bs) v is = elim (in-replay (list_after list b.imei b.records b.answer) bs v is) as (λ _. In list v ⊎ IsBrought (b ∷ bs) v) [
  | inl first ↦ elim (in-after list b.imei b.records b.answer v first) as (λ _. In list v ⊎ IsBrought (b ∷ bs) v) [
    | inl old ↦ inl old
    | inr new ↦ inr (record { call = b; made = inl refl; device = new.0; has = new.1 })
  ]
  | inr later ↦ inr (record { call = later.call; made = inr later.made; device = later.device; has = later.has })
]

begins-after : (list : List StoredValue) (imei : ℕ) (rs : List Record) (answer : Answer) → Begins list (list_after list imei rs answer)
begins-after list imei rs (Ok places) = record { more = map (stored imei) (fresh list imei rs); is = admitted-fresh list imei rs }
begins-after list imei rs (Err fault) = begins-self list

pub replay-begins : (list : List StoredValue) (bs : List Brought) → Begins list (replay list bs)
replay-begins list [] = begins-self list
replay-begins list (b ∷ bs) =
    let next = list_after list b.imei b.records b.answer in
    begins-then list next (replay next bs) (begins-after list b.imei b.records b.answer) (replay-begins next bs)

pub replay-keeps : (list : List StoredValue) (bs : List Brought) (v : StoredValue) → In list v → In (replay list bs) v
replay-keeps list bs v is =
    let begins = replay-begins list bs in
    let P : List StoredValue → Type 0 = λ l. In l v in
    subst P (sym begins.is) (in-left list begins.more v is)

in-places : (list : List StoredValue) (imei : ℕ) (rs : List Record) (ps : List ℕ) (r : Record) → ArePlaces list imei rs ps → In rs r → In list (stored imei r)
in-places list imei [] ps r are is = absurd is
in-places list imei (x ∷ rs) [] r are is = absurd are
in-places list imei (x ∷ rs) (p ∷ ps) r are (inl here) = in-place list p (stored imei r) (are.0 ∙ ap (λ (y : Record). Some (stored imei y)) here)
in-places list imei (x ∷ rs) (p ∷ ps) r are (inr there) = in-places list imei rs ps r are.1 there

-- what a legal history has places for is in the list after it
pub in-legal : (list : List StoredValue) (down : Bool) (bs : List Brought) (b : Brought) (r : Record) → IsLegal list down bs → In bs b → HasPlaces b.answer → In b.records r → In (replay list bs) (stored b.imei r)
in-legal list down [] b r legal made has is = absurd made
in-legal list down (c ∷ bs) b r legal (inl here) has is =
    let P : Brought → Type 0 = λ x. HasPlaces x.answer in
    let Q : Brought → Type 0 = λ x. In x.records r in
    let R : Brought → Type 0 = λ x. In (replay list (c ∷ bs)) (stored x.imei r) in
    subst R here (replay-keeps (list_after list c.imei c.records c.answer) bs (stored c.imei r) (at c (subst P (sym here) has) (subst Q (sym here) is) legal.0))
  where
    at : (c : Brought) → HasPlaces c.answer → In c.records r → Fits list down c.imei c.records c.answer → In (list_after list c.imei c.records c.answer) (stored c.imei r)
    at c has is fits = placed c.imei c.records c.answer has is fits
      where
        placed : (imei : ℕ) (rs : List Record) (answer : Answer) → HasPlaces answer → In rs r → Fits list down imei rs answer → In (list_after list imei rs answer) (stored imei r)
        placed imei rs (Ok places) has is fits = in-places (admitted list imei rs) imei rs places r fits.1 is
        placed imei rs (Err fault) has is fits = absurd has
in-legal list down (c ∷ bs) b r legal (inr there) has is =
    in-legal (list_after list c.imei c.records c.answer) (down_after down c.answer) bs b r legal.1 there has is

-- Calls under some numbers.

kept-log : (n : ℕ) (e x : Entry) (es : List Entry) → In (kept_if n e es) x → In (e ∷ es) x
kept-log zero e x es is = inr is
kept-log (suc n) e x es is = is

pub in_log : (ns : List ℕ) (log : List Entry) (e : Entry) → In (calls_by ns log) e → In log e
in_log ns [] e is = absurd is
in_log ns (f ∷ log) e is = elim (kept-log (times f.seat ns) f e (calls_by ns log) is) as (λ _. In (f ∷ log) e) [ inl here ↦ inl here | inr there ↦ inr (in_log ns log e there) ]

kept-in : (n : ℕ) (e x : Entry) (es : List Entry) → 0 < n → In (e ∷ es) x → In (kept_if n e es) x
kept-in zero e x es some is = absurd (omega arith)
kept-in (suc n) e x es some is = is

kept-later : (n : ℕ) (e x : Entry) (es : List Entry) → In es x → In (kept_if n e es) x
kept-later zero e x es is = is
kept-later (suc n) e x es is = inr is

-- a call under one of the numbers is among them
pub in_own : (ns : List ℕ) (log : List Entry) (e : Entry) → In log e → 0 < times e.seat ns → In (calls_by ns log) e
in_own ns [] e is some = absurd is
in_own ns (f ∷ log) e (inl here) some =
    let P : Entry → Type 0 = λ x. 0 < times x.seat ns in
    kept-in (times f.seat ns) f e (calls_by ns log) (subst P (sym here) some) (inl here)
in_own ns (f ∷ log) e (inr there) some = kept-later (times f.seat ns) f e (calls_by ns log) (in_own ns log e there some)

kept-few : (n : ℕ) (e : Entry) (es : List Entry) → length (kept_if n e es) ≤ length es + 1
kept-few zero e es = omega arith
kept-few (suc n) e es = omega arith

calls-few : (ns : List ℕ) (log : List Entry) → length (calls_by ns log) ≤ length log
calls-few ns [] = omega arith
calls-few ns (e ∷ log) = let rest = calls-few ns log in omega (arith, kept-few (times e.seat ns) e (calls_by ns log))

-- where all calls are under some numbers, each of them is
pub in_whole : (ns : List ℕ) (log : List Entry) (e : Entry) → calls_by ns log ≡ log → In log e → 0 < times e.seat ns
in_whole ns [] e all is = absurd is
in_whole ns (f ∷ log) e all is = split (λ rest there. in_whole ns log e rest there) (times f.seat ns) refl
  where
    few : length (calls_by ns log) ≤ length log
    few = calls-few ns log

    tail : (x : Entry) (xs ys : List Entry) → x ∷ xs ≡ x ∷ ys → xs ≡ ys
    tail x xs ys same = cc

    later : (calls_by ns log ≡ log → In log e → 0 < times e.seat ns) → calls_by ns log ≡ log → 0 < times f.seat ns → In (f ∷ log) e → 0 < times e.seat ns
    later again rest some (inl here) = let P : Entry → Type 0 = λ x. 0 < times x.seat ns in subst P here some
    later again rest some (inr there) = again rest there

    split : (calls_by ns log ≡ log → In log e → 0 < times e.seat ns) → (n : ℕ) → times f.seat ns ≡ n → 0 < times e.seat ns
    split again zero none = absurd (let same = ap length (ap (λ n. kept_if n f (calls_by ns log)) (sym none) ∙ all) in omega (arith, few))
    split again (suc n) some =
        let same : f ∷ calls_by ns log ≡ f ∷ log = ap (λ n. kept_if n f (calls_by ns log)) (sym some) ∙ all in
        later again (tail f (calls_by ns log) log same) (omega arith) is

pub counting_within : (n i k : ℕ) → 0 < times n (counting i k) → (i ≤ n) × (n < i + k)
counting_within n i zero some = absurd (omega arith)
counting_within n i (suc k) some = split (counting_within n (suc i) k) (n == i) refl
  where
    split : (0 < times n (counting (suc i) k) → (suc i ≤ n) × (n < suc i + k)) → (b : Bool) → (n == i) ≡ b → (i ≤ n) × (n < i + suc k)
    split again true is = let same : n ≡ i = grind (arith, nat_tests, is) in (omega arith, omega arith)
    split again false is =
        let rest : 0 < times n (counting (suc i) k) = let P : Bool → Type 0 = λ b. 0 < (if b then 1 else 0) + times n (counting (suc i) k) in omega (arith, subst P is some) in
        let within = again rest in (omega (arith, within.0), omega (arith, within.1))
