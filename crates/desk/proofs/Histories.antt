-- What seats know of a history, as it grows.
use Rattle.std.proofs.Common.{◌≡◌, ◌≢◌, ⊎_elim, ℕ, zero, suc, ◌+◌, ◌<◌, ◌≤◌, List, [], ◌∷◌, ◌++◌, length, refl, sym, ap, ◌∙◌, subst, arith, append_assoc, length-append}
use Rattle.std.proofs.lemmas.List.{append-nil}
use mathlib.Core.Option.{some, some-injective, some-ne-none}
use lib.ListN.{get_elem?}
use Rattle.atomic_table.proofs.Lists.{at_snoc}
use Rattle.shelf.specs.Entries.{Entry, times, kept_if, calls_by, StartsWith}
use Rattle.desk.specs.Views.{Stage, busy_at}
use Rattle.desk.specs.Views.Stage.{Idle, Waiting, Holding}
use Rattle.desk.specs.Rule.{Knows, FitsStage}
use Rattle.desk.proofs.Totals.{at_within}

-- Knowing.

pub knows-nothing : (log : List Entry) → Knows log [] []
knows-nothing log = record { begins = (log, refl); quiet = λ k e later at. refl }

pub knows-all : (log seen : List Entry) (ns : List ℕ) → seen ≡ log → Knows log seen ns
knows-all log seen ns same = record {
  begins = ([], sym same ∙ sym (append-nil seen));
  quiet = λ k e later at. absurd (let within = at_within log k e at in let long = ap length same in omega arith);
}

pub knows-fewer : (log seen : List Entry) (ns ms : List ℕ) → ((n : ℕ) → times n ms ≤ times n ns) → Knows log seen ns → Knows log seen ms
knows-fewer log seen ns ms fewer knows = record {
  begins = knows.begins;
  quiet = λ k e later at. (let none = knows.quiet k e later at in let few = fewer e.seat in omega arith);
}

pub knows-more : (log seen : List Entry) (ns : List ℕ) (e : Entry) → times e.seat ns ≡ 0 → Knows log seen ns → Knows (log ++ e ∷ []) seen ns
knows-more log seen ns e none knows = record {
  begins = (knows.begins.0 ++ e ∷ [], ap (λ l. l ++ e ∷ []) knows.begins.1 ∙ append_assoc seen knows.begins.0 (e ∷ []));
  quiet = λ k x later at. ⊎_elim
      (λ (old : get_elem? log k ≡ some x). knows.quiet k x later old)
      (λ (new : e ≡ x). subst (λ (y : Entry). times y.seat ns ≡ 0) new none)
      (at_snoc log e x k at);
}

-- Calls under numbers.

pub calls_by-append : (ns : List ℕ) (xs ys : List Entry) → calls_by ns (xs ++ ys) ≡ calls_by ns xs ++ calls_by ns ys
calls_by-append ns [] ys = refl
calls_by-append ns (x ∷ xs) ys = split (times x.seat ns) (calls_by-append ns xs ys)
  where
    split : (n : ℕ) → calls_by ns (xs ++ ys) ≡ calls_by ns xs ++ calls_by ns ys → kept_if n x (calls_by ns (xs ++ ys)) ≡ kept_if n x (calls_by ns xs) ++ calls_by ns ys
    split zero rest = rest
    split (suc n) rest = ap (λ l. x ∷ l) rest

pub calls_by-none : (ns : List ℕ) (xs : List Entry) → ((k : ℕ) (e : Entry) → get_elem? xs k ≡ some e → times e.seat ns ≡ 0) → calls_by ns xs ≡ []
calls_by-none ns [] none = refl
calls_by-none ns (x ∷ xs) none = ap (λ n. kept_if n x (calls_by ns xs)) (none zero x refl) ∙ calls_by-none ns xs (λ k e at. none (suc k) e at)

pub calls_by-all : (ns : List ℕ) (xs : List Entry) → ((k : ℕ) (e : Entry) → get_elem? xs k ≡ some e → 0 < times e.seat ns) → calls_by ns xs ≡ xs
calls_by-all ns [] all = refl
calls_by-all ns (x ∷ xs) all = kept (times x.seat ns) (all zero x refl) ∙ ap (λ l. x ∷ l) (calls_by-all ns xs (λ k e at. all (suc k) e at))
  where
    kept : (n : ℕ) → 0 < n → kept_if n x (calls_by ns xs) ≡ x ∷ calls_by ns xs
    kept zero any = absurd (omega arith)
    kept (suc n) any = refl

pub calls_by-one : (ns : List ℕ) (e : Entry) → 0 < times e.seat ns → calls_by ns (e ∷ []) ≡ e ∷ []
calls_by-one ns e any = calls_by-all ns (e ∷ []) one
  where
    one : (k : ℕ) (x : Entry) → get_elem? (e ∷ []) k ≡ some x → 0 < times x.seat ns
    one zero x at = subst (λ (y : Entry). 0 < times y.seat ns) (some-injective e x at) any
    one (suc k) x at = absurd (some-ne-none x (sym at))

pub at-behind : (xs ys : List Entry) (k : ℕ) → get_elem? (xs ++ ys) (length xs + k) ≡ get_elem? ys k
at-behind [] ys k = ap (get_elem? ys) (let e : 0 + k ≡ k = omega arith in e)
at-behind (x ∷ xs) ys k = ap (get_elem? (x ∷ (xs ++ ys))) (let e : suc (length xs) + k ≡ suc (length xs + k) = omega arith in e) ∙ at-behind xs ys k

-- In a history that a seat knows the calls under its numbers are those that it has seen.
pub calls_by-known : (log seen : List Entry) (ns : List ℕ) → Knows log seen ns → calls_by ns log ≡ calls_by ns seen
calls_by-known log seen ns knows =
    let more = knows.begins.0 in
    let none : calls_by ns more ≡ [] = calls_by-none ns more (λ k e at.
    knows.quiet (length seen + k) e (omega arith) (ap (λ l. get_elem? l (length seen + k)) knows.begins.1 ∙ at-behind seen more k ∙ at)) in
    ap (calls_by ns) knows.begins.1 ∙ calls_by-append ns seen more ∙ ap (λ l. calls_by ns seen ++ l) none ∙ append-nil (calls_by ns seen)

-- Two beginnings of one history: the longer begins with the shorter.
pub shorter-begins : (log a b : List Entry) → StartsWith log a → StartsWith log b → length a ≤ length b → StartsWith b a
shorter-begins log [] b one other short = (b, refl)
shorter-begins log (x ∷ a) [] one other short = absurd (omega arith)
shorter-begins [] (x ∷ a) (y ∷ b) one other short = absurd (let e : [] ≡ x ∷ (a ++ one.0) = one.1 in cc)
shorter-begins (z ∷ log) (x ∷ a) (y ∷ b) one other short =
    let e : z ∷ log ≡ x ∷ (a ++ one.0) = one.1 in
    let f : z ∷ log ≡ y ∷ (b ++ other.0) = other.1 in
    let e_rest : log ≡ a ++ one.0 = cc in
    let f_rest : log ≡ b ++ other.0 = cc in
    let same : y ≡ x = cc in
    let rest = shorter-begins log a b (one.0, e_rest) (other.0, f_rest) (omega arith) in
    (rest.0, λ i. same i ∷ rest.1 i)

-- Stages.

pub stage-more : (log seen : List Entry) (n m ticket : ℕ) (stage : Stage) → n ≤ m → FitsStage log n seen ticket stage → FitsStage log m seen ticket stage
stage-more log seen n m ticket Idle more fits = tt
stage-more log seen n m ticket Waiting more fits = (fits.0, let low = fits.1 in omega arith)
stage-more log seen n m ticket Holding more fits = fits

-- The turn was passed on, by another seat.
pub stage-next : (log seen : List Entry) (e : Entry) (n m ticket : ℕ) (stage : Stage) → n ≡ m + 1 → (busy_at stage ≡ 1 → ticket ≢ length log) → FitsStage log n seen ticket stage → FitsStage (log ++ e ∷ []) m seen ticket stage
stage-next log seen e n m ticket Idle more apart fits = tt
stage-next log seen e n m ticket Waiting more apart fits =
    let long = length-append log (e ∷ []) in
    let low = fits.0 in
    let high = fits.1 in
    let other : ticket ≢ length log = apart refl in
    (omega arith, omega arith)
stage-next log seen e n m ticket Holding more apart fits = absurd (apart refl fits.0)

-- Who has a ticket has one of those that are out.
pub ticket-out : (log seen : List Entry) (n ticket : ℕ) (stage : Stage) → busy_at stage ≡ 1 → 0 < n → FitsStage log n seen ticket stage → (length log ≤ ticket) × (ticket < length log + n)
ticket-out log seen n ticket Idle is any fits = absurd (omega arith)
ticket-out log seen n ticket Waiting is any fits = fits
ticket-out log seen n ticket Holding is any fits = let same = fits.0 in (omega arith, omega arith)
