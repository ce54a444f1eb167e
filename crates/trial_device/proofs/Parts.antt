-- Lists that are parts of others, in order.
use Rattle.std.proofs.Common.{◌≡◌, inl, inr, ℕ, suc, ◌+◌, ◌≤◌, List, [], ◌∷◌, ◌++◌, length, drop, slice_get, Some, refl, sym, ◌∙◌, arith}
use Rattle.std.proofs.lemmas.List.{length-map}
use Rattle.avl_values.specs.Record.{Record}
use Rattle.flash_ring.specs.Held.{IsPart}
use Rattle.trial_model.specs.Decisions.{Decision, records_decided}

pub part-self : (xs : List Record) → IsPart xs xs
part-self [] = tt
part-self (x ∷ xs) = inl (refl, part-self xs)

part-tail : (x : Record) (xs ys : List Record) → IsPart (x ∷ xs) ys → IsPart xs ys
part-tail x [] ys part = tt
part-tail x (z ∷ xs) [] part = absurd part
part-tail x (z ∷ xs) (y ∷ ys) part = elim part as (λ _. IsPart (z ∷ xs) (y ∷ ys)) [
  | inl here ↦ inr here.1
  | inr later ↦ inr (part-tail x (z ∷ xs) ys later)
]

pub part-drop : (xs : List Record) → IsPart (drop 1 xs) xs
part-drop [] = tt
part-drop (x ∷ xs) = part-tail x xs (x ∷ xs) (part-self (x ∷ xs))

pub part-then : (xs ys zs : List Record) → IsPart xs ys → IsPart ys zs → IsPart xs zs
part-then [] ys zs first second = tt
part-then (x ∷ xs) [] zs first second = absurd first
part-then (x ∷ xs) (y ∷ ys) [] first second = absurd second
part-then (x ∷ xs) (y ∷ ys) (z ∷ zs) first second = elim second as (λ _. IsPart (x ∷ xs) (z ∷ zs)) [
  | inl there ↦ elim first as (λ _. IsPart (x ∷ xs) (z ∷ zs)) [
    | inl here ↦ inl (here.0 ∙ there.0, part-then xs ys zs here.1 there.1)
    | inr later ↦ inr (part-then (x ∷ xs) ys zs later there.1)
  ]
  | inr further ↦ inr (part-then (x ∷ xs) (y ∷ ys) zs first further)
]

pub part-wider : (xs ys zs : List Record) → IsPart xs ys → IsPart xs (ys ++ zs)
part-wider [] ys zs part = tt
part-wider (x ∷ xs) [] zs part = absurd part
part-wider (x ∷ xs) (y ∷ ys) zs part = elim part as (λ _. IsPart (x ∷ xs) ((y ∷ ys) ++ zs)) [
  | inl here ↦ inl (here.0, part-wider xs ys zs here.1)
  | inr later ↦ inr (part-wider (x ∷ xs) ys zs later)
]

pub part-push : (xs ys : List Record) (r : Record) → IsPart xs ys → IsPart (xs ++ r ∷ []) (ys ++ r ∷ [])
part-push [] [] r part = inl (refl, tt)
part-push [] (y ∷ ys) r part = inr (part-push [] ys r tt)
part-push (x ∷ xs) [] r part = absurd part
part-push (x ∷ xs) (y ∷ ys) r part = elim part as (λ _. IsPart ((x ∷ xs) ++ r ∷ []) ((y ∷ ys) ++ r ∷ [])) [
  | inl here ↦ inl (here.0, part-push xs ys r here.1)
  | inr later ↦ inr (part-push (x ∷ xs) ys r later)
]

pub part-length : (xs ys : List Record) → IsPart xs ys → length xs ≤ length ys
part-length [] ys part = omega arith
part-length (x ∷ xs) [] part = absurd part
part-length (x ∷ xs) (y ∷ ys) part = elim part as (λ _. length (x ∷ xs) ≤ length (y ∷ ys)) [
  | inl here ↦ (let rest = part-length xs ys here.1 in omega arith)
  | inr later ↦ (let rest = part-length (x ∷ xs) ys later in omega arith)
]

-- The place of the first record of a part: as many decisions follow it as there are records in the part.
pub record HasPlace (r : Record) (count : ℕ) (ds : List Decision) : Type 0 where
  pub place : ℕ
  pub decision : Decision
  pub decided : slice_get ds place ≡ Some decision
  pub is_record : decision.rec ≡ r
  pub room : place + count ≤ length ds

pub part-place : (x : Record) (xs : List Record) (ds : List Decision) → IsPart (x ∷ xs) (records_decided ds) → HasPlace x (length (x ∷ xs)) ds
part-place x xs [] part = absurd part
part-place x xs (d ∷ ds) part = elim part as (λ _. HasPlace x (length (x ∷ xs)) (d ∷ ds)) [
  | inl here ↦ record {
    place = 0;
    decision = d;
    decided = refl;
    is_record = sym here.0;
    room = (let few = part-length xs (records_decided ds) here.1 in let same = length-map ds (λ (d : Decision). d.rec) in omega arith);
  }
  | inr later ↦ (let rest = part-place x xs ds later in let low = rest.room in record {
    place = suc rest.place;
    decision = rest.decision;
    decided = rest.decided;
    is_record = rest.is_record;
    room = omega arith;
  })
]
