-- Facts of one view, and of all views where one changes.
use Rattle.std.proofs.Common.{◌≡◌, ◌≢◌, ⊎_elim, ℕ, zero, suc, ◌+◌, ◌<◌, ◌≤◌, List, [], ◌∷◌, ◌++◌, length, set, refl, sym, ap, ◌∙◌, subst, arith}
use Rattle.std.proofs.lemmas.Bool.Decides.{nat_tests}
use Rattle.std.proofs.lemmas.List.{append-nil}
use mathlib.Core.Option.{some, some-injective}
use mathlib.Core.Logic.{dite}
use native.Mathlib.Decide.{ℕ_discrete}
use lib.ListN.{get_elem?}
use Rattle.atomic_table.proofs.Lists.{at_set, at_snoc, set_else}
use Rattle.shelf.specs.Entries.{times, counting}
use Rattle.desk.specs.Views.{Stage, View, IsAlone, all_numbers, first_number, total, busy, share, has}
use Rattle.desk.specs.Views.Stage.{Idle, Holding}
use Rattle.desk.specs.Rule.{NobodyHolds, TicketsDiffer}
use Rattle.desk.proofs.Totals.{total_set}

-- Numbers.

pub times-append : (n : ℕ) (xs ys : List ℕ) → times n (xs ++ ys) ≡ times n xs + times n ys
times-append n [] ys = omega arith
times-append n (x ∷ xs) ys = let rest = times-append n xs ys in omega arith

pub times-own : (n : ℕ) (ns : List ℕ) → 0 < times n (n ∷ ns)
times-own n ns = grind (arith, nat_tests)

pub times-first : (ns ms : List ℕ) → 0 < length ns → 0 < times (first_number ns) (ns ++ ms)
times-first [] ms any = absurd (omega arith)
times-first (n ∷ ns) ms any = times-own n (ns ++ ms)

pub times-below : (n i k : ℕ) → n < i → times n (counting i k) ≡ 0
times-below n i zero below = refl
times-below n i (suc k) below = let rest = times-below n (suc i) k (omega arith) in grind (arith, nat_tests)

pub times-counting : (n i k : ℕ) → times n (counting i k) ≤ 1
times-counting n i zero = omega arith
times-counting n i (suc k) = dite (ℕ_discrete n i)
    (λ (e : n ≡ i). let later = times-below n (suc i) k (omega arith) in grind (arith, nat_tests))
    (λ (ne : n ≢ i). let rest = times-counting n (suc i) k in grind (arith, nat_tests))

pub length-counting : (i k : ℕ) → length (counting i k) ≡ k
length-counting i zero = refl
length-counting i (suc k) = ap suc (length-counting (suc i) k)

-- A view that is alone.

module _ (stage : Stage) (v : View) (alone : IsAlone stage v) where
  pub numbers-alone : all_numbers v ≡ v.numbers ++ []
  numbers-alone = ap (λ ms. v.numbers ++ ms) alone.no_numbers

  pub share-alone : share v ≡ length v.numbers
  share-alone = ap length (numbers-alone ∙ append-nil v.numbers)

  pub share-above : 0 < share v
  share-above = let any = alone.numbered in let same = share-alone in omega arith

-- Numbers over all views, where one changes and keeps its own.

module _ (views : List View) (i : ℕ) (v w : View) (at : get_elem? views i ≡ some v) (same : all_numbers w ≡ all_numbers v) where
  pub share-kept : total share (set views i w) ≡ total share views
  share-kept = let t = total_set share views i v w at in let e : share w ≡ share v = ap length same in omega arith

  pub has-kept : (n : ℕ) → total (has n) (set views i w) ≡ total (has n) views
  has-kept n = let t = total_set (has n) views i v w at in let e : has n w ≡ has n v = ap (times n) same in omega arith

-- Stages.

pub not-holding : (stage : Stage) → stage ≡ Idle → stage ≢ Holding
not-holding stage is holds = let e : Idle ≡ Holding = sym is ∙ holds in cc

pub nobody-back : (views : List View) (i : ℕ) (v w : View) → get_elem? views i ≡ some v → v.stage ≢ Holding → NobodyHolds (set views i w) → NobodyHolds views
nobody-back views i v w at free nobody j u there = dite (ℕ_discrete j i)
    (λ (e : j ≡ i). λ holds. free (ap (λ (x : View). x.stage) (some-injective v u (sym at ∙ ap (get_elem? views) (sym e) ∙ there)) ∙ holds))
    (λ (ne : j ≢ i). nobody j u (set_else views i j w ne ∙ there))

pub apart-set : (views : List View) (i : ℕ) (w : View) → TicketsDiffer views
    → ((j : ℕ) (u : View) → j ≢ i → get_elem? views j ≡ some u → busy w ≡ 1 → busy u ≡ 1 → w.ticket ≢ u.ticket) → TicketsDiffer (set views i w)
apart-set views i w old mine j k u x ju kx ne bu bx =
    ⊎_elim
    (λ (a : (j ≡ i) × (w ≡ u)). ⊎_elim
    (λ (b : (k ≡ i) × (w ≡ x)). absurd (ne (a.0 ∙ sym b.0)))
    (λ (b : (k ≢ i) × (get_elem? views k ≡ some x)). subst (λ (y : View). busy y ≡ 1 → y.ticket ≢ x.ticket) a.1 (λ bw. mine k x b.0 b.1 bw bx) bu)
    (at_set views i k w x kx))
    (λ (a : (j ≢ i) × (get_elem? views j ≡ some u)). ⊎_elim
    (λ (b : (k ≡ i) × (w ≡ x)). subst (λ (y : View). busy y ≡ 1 → u.ticket ≢ y.ticket) b.1 (λ bw e. mine j u a.0 a.1 bw bu (sym e)) bx)
    (λ (b : (k ≢ i) × (get_elem? views k ≡ some x)). old j k u x a.1 b.1 ne bu bx)
    (at_set views i k w x kx))
    (at_set views i j w u ju)

pub apart-snoc : (views : List View) (w : View) → TicketsDiffer views → busy w ≡ 0 → TicketsDiffer (views ++ w ∷ [])
apart-snoc views w old idle j k u x ju kx ne bu bx =
    ⊎_elim
    (λ (a : get_elem? views j ≡ some u). ⊎_elim
    (λ (b : get_elem? views k ≡ some x). old j k u x a b ne bu bx)
    (λ (b : w ≡ x). absurd (let e = ap busy b in omega arith))
    (at_snoc views w x k kx))
    (λ (a : w ≡ u). absurd (let e = ap busy a in omega arith))
    (at_snoc views w u j ju)
