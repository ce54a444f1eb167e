-- Spans, and the places outside of them.
use Rattle.std.proofs.Common.{◌≡◌, ◌⊎◌, inl, inr, ℕ, zero, suc, ◌+◌, ◌-◌, ◌<◌, ◌≤◌, min, max, Bool, false, List, [], ◌∷◌, ◌++◌, length, get_or, drop, sym, ◌∙◌, ap, subst, arith}
use Rattle.std.proofs.lemmas.List.{drop_more}
use Rattle.std.proofs.lemmas.Bool.{cases_lt}
use Rattle.medium.specs.Buffer.{EndBy, HasMore, IsOutside, SetFrom}
use Rattle.medium.specs.declared.spans.Span.{Span}

abbrev pub IsOut : Span → ℕ → Type 0
IsOut s k = (k < s.first) ⊎ (s.end ≤ k)

pub end-later : (a b : ℕ) (spans : List Span) → a ≤ b → EndBy a spans → EndBy b spans
end-later a b spans later ends = record { each = λ i d low. let at = ends.each i d low in omega arith }

pub outside-push : (xs : List Span) (s : Span) (k : ℕ) → IsOutside (xs ++ s ∷ []) k → IsOutside xs k × IsOut s k
outside-push [] s k out = (tt, out.0)
outside-push (x ∷ xs) s k out = let rest = outside-push xs s k out.1 in ((out.0, rest.0), rest.1)

pub outside-end : (xs : List Span) (s : Span) (k : ℕ) → IsOutside xs k → IsOut s k → IsOutside (xs ++ s ∷ []) k
outside-end [] s k all out = (out, tt)
outside-end (x ∷ xs) s k all out = (all.0, outside-end xs s k all.1 out)

pub end-push : (e : ℕ) (xs : List Span) (s : Span) → EndBy e (xs ++ s ∷ []) → EndBy e xs × (s.end ≤ e)
end-push e [] s ends = (record { each = λ i d low. absurd (omega arith) }, ends.each 0 s (omega arith))
end-push e (x ∷ xs) s ends =
    let rest = end-push e xs s (record { each = λ i d low. ends.each (suc i) d (omega arith) }) in
    let first = ends.each 0 x (omega arith) in
    (end-cons e x xs first rest.0, rest.1)
  where
    end-cons : (e : ℕ) (x : Span) (xs : List Span) → x.end ≤ e → EndBy e xs → EndBy e (x ∷ xs)
    end-cons e x xs first rest = record { each = each }
      where
        each : (i : ℕ) (d : Span) → i < length (x ∷ xs) → (get_or (x ∷ xs) i d).end ≤ e
        each zero d low = first
        each (suc i) d low = rest.each i d (omega arith)

pub end-end : (e : ℕ) (xs : List Span) (s : Span) → EndBy e xs → s.end ≤ e → EndBy e (xs ++ s ∷ [])
end-end e xs s ends last = record { each = go xs (λ i d low. ends.each i d low) }
  where
    go : (xs : List Span) → ((i : ℕ) (d : Span) → i < length xs → (get_or xs i d).end ≤ e) → (i : ℕ) (d : Span) → i < length (xs ++ s ∷ []) → (get_or (xs ++ s ∷ []) i d).end ≤ e
    go [] all zero d low = last
    go [] all (suc i) d low = absurd (omega arith)
    go (x ∷ xs) all zero d low = all 0 d (omega arith)
    go (x ∷ xs) all (suc i) d low = go xs (λ j e2 l. all (suc j) e2 (omega arith)) i d (omega arith)

-- a span after the others
pub pushed-more : (xs : List Span) (s : Span) → HasMore s xs (xs ++ s ∷ [])
pushed-more xs s = record {
  covers = λ k out. (outside-push xs s k out).0;
  has = λ k out. (outside-push xs s k out).1;
  ends = λ e low ends. end-end e xs s ends low;
}

-- the last one wider
pub widened-more : (xs old : List Span) (last s w : Span) → old ≡ xs ++ last ∷ [] → w.first ≡ min last.first s.first → w.end ≡ max last.end s.end → HasMore s old (xs ++ w ∷ [])
widened-more xs old last s w was first end = record {
  covers = λ k out.
      let both = outside-push xs w k out in
      subst (λ (ss : List Span). IsOutside ss k) (sym was) (outside-end xs last k both.0 (elim both.1 as (λ _. IsOut last k) [ inl low ↦ inl (omega arith) | inr high ↦ inr (omega arith) ]));
  has = λ k out. elim (outside-push xs w k out).1 as (λ _. IsOut s k) [ inl low ↦ inl (omega arith) | inr high ↦ inr (omega arith) ];
  ends = λ e low ends. let both = end-push e xs last (subst (EndBy e) was ends) in end-end e xs w both.0 (let l = both.1 in omega arith);
}

-- One span more is done: a place outside of those left is in it, or was outside of it and of those left.
one-done : (spans : List Span) (i : ℕ) (d : Span) (first end k : ℕ) (P : Type 0) → i < length spans → first ≡ (get_or spans i d).first → end ≡ (get_or spans i d).end → IsOutside (drop (i + 1) spans) k
    → (first ≤ k → k < end → P) → ((k < first) ⊎ (end ≤ k) → IsOutside (drop i spans) k → P) → P
one-done spans i d first end k P low is_first is_end out inside outside =
    let s = get_or spans i d in
    let here : IsOut s k → IsOutside (drop i spans) k =
    λ apart. subst (λ (ss : List Span). IsOutside ss k) (sym (drop_more spans i d low)) (apart, out) in
    elim (cases_lt k first) as (λ _. P) [
      | inl before ↦ outside (inl before) (here (inl (omega arith)))
      | inr from ↦ elim (cases_lt k end) as (λ _. P) [
        | inl within ↦ inside from within
        | inr past ↦ outside (inr past) (here (inr (omega arith)))
      ]
    ]

later : (k first end : ℕ) → end ≤ k → (k < first) ⊎ (first + (end - first) ≤ k)
later k first end past = elim (cases_lt k first) as (λ _. (k < first) ⊎ (first + (end - first) ≤ k)) [ inl low ↦ inl low | inr from ↦ inr (omega arith) ]

-- One span more was taken.
pub one-copied : (spans : List Span) (i : ℕ) (d : Span) (first end : ℕ) (from before after : List ℕ) → i < length spans → first ≡ (get_or spans i d).first → end ≡ (get_or spans i d).end
    → SetFrom 0 first (end - first) (λ k. get_or from (first + k) 0) before after
    → ((k : ℕ) → IsOutside (drop i spans) k → get_or before k 0 ≡ get_or from k 0)
    → (k : ℕ) → IsOutside (drop (i + 1) spans) k → get_or after k 0 ≡ get_or from k 0
one-copied spans i d first end from before after low is_first is_end so were k out =
    one-done spans i d first end k (get_or after k 0 ≡ get_or from k 0) low is_first is_end out
    (λ above below. let j : first + (k - first) ≡ k = omega arith in
    ap (λ p. get_or after p 0) (sym j) ∙ so.there (k - first) (omega arith) ∙ ap (λ p. get_or from p 0) j)
    (λ apart rest. so.elsewhere k (elim apart as (λ _. (k < first) ⊎ (first + (end - first) ≤ k)) [ inl under ↦ inl under | inr past ↦ later k first end past ]) ∙ were k rest)

pub one-unmarked : (spans : List Span) (i : ℕ) (d : Span) (first end : ℕ) (before after : List Bool) → i < length spans → first ≡ (get_or spans i d).first → end ≡ (get_or spans i d).end
    → SetFrom false first (end - first) (λ _. false) before after
    → ((k : ℕ) → IsOutside (drop i spans) k → get_or before k false ≡ false)
    → (k : ℕ) → IsOutside (drop (i + 1) spans) k → get_or after k false ≡ false
one-unmarked spans i d first end before after low is_first is_end so were k out =
    one-done spans i d first end k (get_or after k false ≡ false) low is_first is_end out
    (λ above below. let j : first + (k - first) ≡ k = omega arith in
    ap (λ p. get_or after p false) (sym j) ∙ so.there (k - first) (omega arith))
    (λ apart rest. so.elsewhere k (elim apart as (λ _. (k < first) ⊎ (first + (end - first) ≤ k)) [ inl under ↦ inl under | inr past ↦ later k first end past ]) ∙ were k rest)
