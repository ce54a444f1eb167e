-- The index of a record list.
use Rattle.std.proofs.Common.{◌≡◌, inl, inr, ℕ, ◌+◌, ◌%◌, ◌^◌, ◌<◌, ◌≤◌, Bool, true, false, List, [], ◌∷◌, ◌++◌, length, get_or, drop, slice_get, Option, Some, None, IsSome, sym, ◌∙◌, ap, refl, subst, arith, add-one, drop-cons, length-drop}
use Rattle.std.specs.List.{fold}
use Rattle.std.proofs.lemmas.List.{ext_get_or}
use Rattle.shelf.specs.Digest.{mixed_with}
use Rattle.std.specs.Ordering.{is_eq, nat_cmp}
use Rattle.std.specs.declared.cmp.Ordering.{Ordering}
use Rattle.std.specs.declared.cmp.Ordering.TheVariants.{Less, Equal, Greater}
use Rattle.std.specs.BTreeMap.{BTreeMap, Updates}
use Rattle.std.proofs.lemmas.Bool.{cases_lt, false≢true}
use Rattle.std.proofs.lemmas.Map.Lookups.{exact_unsigned, exact_pairs}
use Rattle.std.proofs.lemmas.Option.{same_Some, none-some}
use Rattle.avl_values.specs.Record.{Record}
use Rattle.shelf.specs.Archive.{StoredValue, stored, is_same_stored, has}
use Rattle.shelf.specs.Index.{Key, key_cmp, place_in, number_at, digest_for, IsFiled, IsIndexed, IsFree}
use Rattle.record_lists.proofs.EachOnce.{get-cases, not-listed}
use Rattle.shelf.proofs.Lists.{stored-tell}

equal-is : (o : Ordering) → is_eq o ≡ true → o ≡ Equal
equal-is Less is = absurd (let never : false ≡ true = is in cc)
equal-is Equal is = refl
equal-is Greater is = absurd (let never : false ≡ true = is in cc)

key-same : (a b : Key) → is_eq (key_cmp a b) ≡ true → a ≡ b
key-same a b is = exact_pairs nat_cmp nat_cmp exact_unsigned exact_unsigned a b (equal-is (key_cmp a b) is)

-- What was under another key stays.
module _ (places more : BTreeMap Key ℕ) (key : Key) (place : ℕ) (updates : Updates key_cmp places more key (Some place)) (none : place_in places key ≡ None) where
  pub stays : (q : Key) (p : ℕ) → place_in places q ≡ Some p → place_in more q ≡ Some p
  stays q p is = split (is_eq (key_cmp key q)) refl
    where
      split : (b : Bool) → is_eq (key_cmp key q) ≡ b → place_in more q ≡ Some p
      split true same = absurd (none-some p (sym none ∙ ap (place_in places) (key-same key q same) ∙ is))
      split false apart = updates.2 q apart ∙ is

  pub some-stays : (q : Key) → IsSome (place_in places q) → IsSome (place_in more q)
  some-stays q some = split (place_in places q) refl some
    where
      split : (o : Option ℕ) → place_in places q ≡ o → IsSome o → IsSome (place_in more q)
      split None is some = absurd (false≢true some)
      split (Some p) is some = let P : Option ℕ → Type 0 = λ o. IsSome o in subst P (sym (stays q p is)) refl

  filed-stays : (imei digest p : ℕ) → IsFiled (place_in places) imei digest p → IsFiled (place_in more) imei digest p
  filed-stays imei digest p filed = record {
    step = filed.step;
    there = stays (imei, number_at digest filed.step) p filed.there;
    full = λ j low. some-stays (imei, number_at digest j) (filed.full j low);
  }

  pub indexed-kept : (list : List StoredValue) → IsIndexed list (place_in places) → IsIndexed list (place_in more)
  indexed-kept list is = record { each = λ p s at. filed-stays s.imei (digest_for s.rec) p (is.each p s at) }

  pub indexed-more : (list : List StoredValue) (imei : ℕ) (r : Record) → IsIndexed list (place_in places) → IsFree (place_in places) imei (digest_for r) key.1 → key.0 ≡ imei → place ≡ length list
      → IsIndexed (list ++ stored imei r ∷ []) (place_in more)
  indexed-more list imei r is free device at_end = record {
    each = λ p s at. elim (get-cases list (stored imei r) p s at) as (λ _. IsFiled (place_in more) s.imei (digest_for s.rec) p) [
      | inl old ↦ filed-stays s.imei (digest_for s.rec) p (is.each p s old)
      | inr last ↦
          let P : StoredValue → Type 0 = λ x. IsFiled (place_in more) x.imei (digest_for x.rec) p in
          let same : (let k : Key = (imei, number_at (digest_for r) free.step) in k) ≡ key = ap (λ (n : ℕ). (n, number_at (digest_for r) free.step)) (sym device) ∙ ap (λ (n : ℕ). (key.0, n)) (sym free.is) in
          subst P (sym last.1) (record {
            step = free.step;
            there = ap (place_in more) same ∙ updates.1 ∙ ap Some (at_end ∙ sym last.0);
            full = λ j low. some-stays (imei, number_at (digest_for r) j) (free.full j low);
          })
    ];
  }

-- The numbers before a step have places at which the record doesn't stand.
pub record ArePassed (list : List StoredValue) (find : Key → Option ℕ) (imei : ℕ) (r : Record) (step : ℕ) : Type 0 where
  pub each : (j : ℕ) → j < step → (place : ℕ) × (find (imei, number_at (digest_for r) j) ≡ Some place) × (slice_get list place ≡ Some (stored imei r) → ⊥)

pub passed-more : (list : List StoredValue) (find : Key → Option ℕ) (imei : ℕ) (r : Record) (step next place : ℕ) → ArePassed list find imei r step → next ≡ step + 1 → find (imei, number_at (digest_for r) step) ≡ Some place
    → (slice_get list place ≡ Some (stored imei r) → ⊥) → ArePassed list find imei r next
passed-more list find imei r step next place passed is there other = record {
  each = λ j low. elim (cases_lt j step) as (λ _. (q : ℕ) × (find (imei, number_at (digest_for r) j) ≡ Some q) × (slice_get list q ≡ Some (stored imei r) → ⊥)) [
    | inl before ↦ passed.each j before
    | inr here ↦
        let same : step ≡ j = omega arith in
        (place, ap (λ (n : ℕ). find (imei, number_at (digest_for r) n)) (sym same) ∙ there, other)
  ];
}

pub passed-free : (list : List StoredValue) (find : Key → Option ℕ) (imei : ℕ) (r : Record) (step number : ℕ) → ArePassed list find imei r step → number ≡ number_at (digest_for r) step → find (imei, number) ≡ None
    → IsFree find imei (digest_for r) number
passed-free list find imei r step number passed is none = record {
  step = step;
  is = is;
  none = none;
  full = λ j low. let P : Option ℕ → Type 0 = λ o. IsSome o in subst P (sym (passed.each j low).1) refl;
}

pub passed-new : (list : List StoredValue) (find : Key → Option ℕ) (imei : ℕ) (r : Record) (step number : ℕ) → IsIndexed list find → ArePassed list find imei r step → number ≡ number_at (digest_for r) step → find (imei, number) ≡ None
    → has list imei r ≡ false
passed-new list find imei r step number indexed passed is none0 = not-listed is_same_stored stored-tell list (stored imei r) (λ p at. absurd (never p at (indexed.each p (stored imei r) at)))
  where
    none : find (imei, number_at (digest_for r) step) ≡ None
    none = ap (λ (n : ℕ). find (imei, n)) (sym is) ∙ none0

    never : (p : ℕ) → slice_get list p ≡ Some (stored imei r) → IsFiled find imei (digest_for r) p → ⊥
    never p at filed = elim (cases_lt filed.step step) as (λ _. ⊥) [
      | inl before ↦
          let q = passed.each filed.step before in
          let same : q.0 ≡ p = same_Some q.0 p (sym q.1 ∙ filed.there) in
          q.2 (ap (slice_get list) same ∙ at)
      | inr after ↦ elim (cases_lt step filed.step) as (λ _. ⊥) [
        | inl later ↦ (let P : Option ℕ → Type 0 = λ o. IsSome o in false≢true (subst P none (filed.full step later)))
        | inr here ↦
            let same : step ≡ filed.step = omega arith in
            none-some p (sym none ∙ ap (λ (n : ℕ). find (imei, number_at (digest_for r) n)) same ∙ filed.there)
      ]
    ]

-- A digest made byte by byte.
pub digest-more : (bytes : List ℕ) (i next digest more value : ℕ) → i < length bytes → next ≡ i + 1 → more ≡ mixed_with digest (get_or bytes i 0) → fold mixed_with digest (drop i bytes) ≡ value
    → fold mixed_with more (drop next bytes) ≡ value
digest-more bytes i next digest more value low at is was =
    ap (λ d. fold mixed_with d (drop next bytes)) is
    ∙ ap (λ k. fold mixed_with (mixed_with digest (get_or bytes i 0)) (drop k bytes)) (at ∙ add-one i)
    ∙ sym (ap (fold mixed_with digest) (drop-cons bytes i 0 low)) ∙ was

pub digest-last : (bytes : List ℕ) (i digest value : ℕ) → length bytes ≤ i → fold mixed_with digest (drop i bytes) ≡ value → digest ≡ value
digest-last bytes i digest value past was = sym (ap (fold mixed_with digest) (none bytes i past)) ∙ was
  where
    none : (xs : List ℕ) (n : ℕ) → length xs ≤ n → drop n xs ≡ []
    none xs n few = ext_get_or 0 (drop n xs) [] (omega (arith, length-drop n xs)) (λ k low. absurd (omega (arith, length-drop n xs)))

-- A look-up in the code's words.
pub found-at : (places : BTreeMap Key ℕ) (n m imei digest step : ℕ) (copied looked w : Option ℕ) → n ≡ imei → m ≡ digest → copied ≡ looked → looked ≡ place_in places (n, (m + step) % 2 ^ 64) → copied ≡ w
    → place_in places (imei, number_at digest step) ≡ w
found-at places n m imei digest step copied looked w device first is read found =
    ap (λ (k : ℕ). place_in places (k, number_at digest step)) (sym device) ∙ ap (λ (k : ℕ). place_in places (n, (k + step) % 2 ^ 64)) (sym first) ∙ sym read ∙ sym is ∙ found

pub number-is : (m digest step : ℕ) → m ≡ digest → (m + step) % 2 ^ 64 ≡ number_at digest step
number-is m digest step is = ap (λ (k : ℕ). (k + step) % 2 ^ 64) is
