-- A device's records in the list after a packet, and accounts.
use Rattle.std.proofs.Common.{◌≡◌, ◌≤◌, inl, inr, ℕ, ◌&&◌, ◌||◌, ◌==◌, not, Bool, true, false, List, [], ◌∷◌, ◌++◌, fold, length, if◌then◌else◌, refl, sym, ◌∙◌, ap, subst, arith, eq-eqb, eqb-true}
use Rattle.std.specs.List.{Contains, list_any}
use Rattle.std.proofs.lemmas.Bool.{cases_Bool, false≢true}
use Rattle.std.proofs.lemmas.List.{append-nil}
use Rattle.std.proofs.lemmas.List.Elements.{All-append, All-contains, All-nil}
use Rattle.avl_values.specs.Record.{Record}
use Rattle.record_lists.specs.EachOnce.{IsOnce}
use Rattle.record_lists.specs.SameRecord.{is_same}
use Rattle.record_lists.proofs.EachOnce.{once-all}
use Rattle.record_lists.proofs.SameRecord.{records-tell}
use Rattle.shelf.specs.Archive.{StoredValue, add, admitted, fresh, has, recs_for, stored}
use Rattle.trial_model.specs.RecordLists.{AreIn, add_once, is_listed}
use Rattle.trial_server.specs.Archives.{Account, IsRightList, with_records}
use Rattle.trial_server.proofs.Containing.{adds-have, adds-keep, adds-only, in-itself, in-left, in-listed, in-right, in-then, listed-in}

-- one record more in a list
recs-push : (j imei : ℕ) (r : Record) (list : List StoredValue) → recs_for j (list ++ stored imei r ∷ []) ≡ recs_for j list ++ (if imei == j then r ∷ [] else [])
recs-push j imei r [] = refl
recs-push j imei r (s ∷ list) = split (s.imei == j) (recs-push j imei r list)
  where
    split : (b : Bool) → recs_for j (list ++ stored imei r ∷ []) ≡ recs_for j list ++ (if imei == j then r ∷ [] else [])
        → (if b then s.rec ∷ recs_for j (list ++ stored imei r ∷ []) else recs_for j (list ++ stored imei r ∷ [])) ≡ (if b then s.rec ∷ recs_for j list else recs_for j list) ++ (if imei == j then r ∷ [] else [])
    split true rest = ap (λ (l : List Record). s.rec ∷ l) rest
    split false rest = rest

-- A device has a record where its own records have it.
pub has-listed : (list : List StoredValue) (imei : ℕ) (r : Record) → has list imei r ≡ is_listed (recs_for imei list) r
has-listed [] imei r = refl
has-listed (s ∷ list) imei r = split (s.imei == imei) (has-listed list imei r)
  where
    split : (b : Bool) → has list imei r ≡ is_listed (recs_for imei list) r → ((b && is_same s.rec r) || has list imei r) ≡ is_listed (if b then s.rec ∷ recs_for imei list else recs_for imei list) r
    split true rest = ap (λ t. is_same s.rec r || t) rest
    split false rest = rest

add-own : (imei : ℕ) (list : List StoredValue) (r : Record) → recs_for imei (add list imei r) ≡ add_once (recs_for imei list) r
add-own imei list r = rw (sym (has-listed list imei r)) (split (has list imei r))
  where
    own : recs_for imei (list ++ stored imei r ∷ []) ≡ recs_for imei list ++ r ∷ []
    own = recs-push imei imei r list ∙ ap (λ b. recs_for imei list ++ (if b then r ∷ [] else [])) (eq-eqb imei imei refl)

    split : (b : Bool) → recs_for imei (if b then list else list ++ stored imei r ∷ []) ≡ (if b then recs_for imei list else recs_for imei list ++ r ∷ [])
    split true = refl
    split false = own

-- what a packet makes of its device's records, and of another's
pub admitted-own : (imei : ℕ) (list : List StoredValue) (rs : List Record) → recs_for imei (admitted list imei rs) ≡ fold add_once (recs_for imei list) rs
admitted-own imei list [] = refl
admitted-own imei list (r ∷ rs) = admitted-own imei (add list imei r) rs ∙ ap (λ (l : List Record). fold add_once l rs) (add-own imei list r)

pub admitted-other : (j imei : ℕ) (list : List StoredValue) (rs : List Record) → (imei == j) ≡ false → recs_for j (admitted list imei rs) ≡ recs_for j list
admitted-other j imei list [] other = refl
admitted-other j imei list (r ∷ rs) other = admitted-other j imei (add list imei r) rs other ∙ split (has list imei r)
  where
    split : (b : Bool) → recs_for j (if b then list else list ++ stored imei r ∷ []) ≡ recs_for j list
    split true = refl
    split false = recs-push j imei r list ∙ (ap (λ b. recs_for j list ++ (if b then r ∷ [] else [])) other ∙ append-nil (recs_for j list))

-- Accounts.

pub with-keeps : (imei : ℕ) (rs : List Record) (account : Account) (j : ℕ) → AreIn (with_records imei rs account j) (account j)
with-keeps imei rs account j = in-left (account j) (if imei == j then rs else []) (account j) (in-itself (account j))

pub with-has : (imei : ℕ) (rs : List Record) (account : Account) → AreIn (with_records imei rs account imei) rs
with-has imei rs account =
    let P : Bool → Type 0 = λ b. AreIn (account imei ++ (if b then rs else [])) rs in
    subst P (sym (eq-eqb imei imei refl)) (in-right (account imei) rs rs (in-itself rs))

pub list-weaker : (given counted more less : Account) (list : List StoredValue) → ((j : ℕ) → AreIn (more j) (given j)) → ((j : ℕ) → AreIn (counted j) (less j))
    → IsRightList given counted list → IsRightList more less list
list-weaker given counted more less list grows falls right = record {
  evidence = λ j. in-then (more j) (given j) (recs_for j list) (grows j) (right.evidence j);
  keeps = λ j. in-then (recs_for j list) (counted j) (less j) (right.keeps j) (falls j);
  once = right.once;
}

-- A packet makes of a right list one that is right by both accounts with its records.
pub list-admitted : (given counted : Account) (imei : ℕ) (rs : List Record) (list : List StoredValue) → IsRightList given counted list
    → IsRightList (with_records imei rs given) (with_records imei rs counted) (admitted list imei rs)
list-admitted given counted imei rs list right = record {
  evidence = λ j. let P : Bool → Type 0 = λ b. AreIn (given j ++ (if b then rs else [])) (recs_for j (admitted list imei rs)) in
      elim (cases_Bool (imei == j)) as (λ _. P (imei == j)) [ inl own ↦ subst P (sym own) (own-evidence j own) | inr other ↦ subst P (sym other) (other-evidence j other) ];
  keeps = λ j. let P : Bool → Type 0 = λ b. AreIn (recs_for j (admitted list imei rs)) (counted j ++ (if b then rs else [])) in
      elim (cases_Bool (imei == j)) as (λ _. P (imei == j)) [ inl own ↦ subst P (sym own) (own-keeps j own) | inr other ↦ subst P (sym other) (other-keeps j other) ];
  once = λ j. elim (cases_Bool (imei == j)) as (λ _. IsOnce {A = Record} (recs_for j (admitted list imei rs))) [
    | inl own ↦ subst (λ (l : List Record). IsOnce l) (sym (at j own)) (once-all is_same records-tell (recs_for j list) rs (right.once j))
    | inr other ↦ subst (λ (l : List Record). IsOnce l) (sym (admitted-other j imei list rs other)) (right.once j)
  ];
}
  where
    at : (j : ℕ) → (imei == j) ≡ true → recs_for j (admitted list imei rs) ≡ fold add_once (recs_for j list) rs
    at j own = subst (λ k. recs_for k (admitted list imei rs) ≡ fold add_once (recs_for k list) rs) (eqb-true imei j own) (admitted-own imei list rs)

    own-evidence : (j : ℕ) → (imei == j) ≡ true → AreIn (given j ++ rs) (recs_for j (admitted list imei rs))
    own-evidence j own = subst (AreIn (given j ++ rs)) (sym (at j own))
        (adds-only (given j ++ rs) (recs_for j list) rs (in-left (given j) rs (recs_for j list) (right.evidence j)) (in-right (given j) rs rs (in-itself rs)))

    other-evidence : (j : ℕ) → (imei == j) ≡ false → AreIn (given j ++ []) (recs_for j (admitted list imei rs))
    other-evidence j other = subst (AreIn (given j ++ [])) (sym (admitted-other j imei list rs other)) (in-left (given j) [] (recs_for j list) (right.evidence j))

    own-keeps : (j : ℕ) → (imei == j) ≡ true → AreIn (recs_for j (admitted list imei rs)) (counted j ++ rs)
    own-keeps j own =
        let new = fold add_once (recs_for j list) rs in
        subst (λ l. AreIn l (counted j ++ rs)) (sym (at j own))
        (All-append (Contains new) (counted j) rs (in-then new (recs_for j list) (counted j) (adds-keep (recs_for j list) rs) (right.keeps j)) (adds-have (recs_for j list) rs))

    other-keeps : (j : ℕ) → (imei == j) ≡ false → AreIn (recs_for j (admitted list imei rs)) (counted j ++ [])
    other-keeps j other = subst (λ l. AreIn l (counted j ++ [])) (sym (admitted-other j imei list rs other))
        (All-append (Contains (recs_for j list)) (counted j) [] (right.keeps j) (All-nil (Contains (recs_for j list))))

-- Where records are in no account that covers the list, something of the packet is new.
pub fresh-some : (before : List Record) (imei : ℕ) (list : List StoredValue) (rs : List Record) → AreIn before (recs_for imei list) → list_any (λ r. not (is_listed before r)) rs ≡ true → 1 ≤ length (fresh list imei rs)
fresh-some before imei list [] h any = absurd (false≢true any)
fresh-some before imei list (r ∷ rs) h any = split (λ rest. fresh-some before imei list rs h rest) (has list imei r) refl
  where
    known : has list imei r ≡ true → is_listed before r ≡ true
    known e = in-listed before r (All-contains (Contains before) (recs_for imei list) r h (listed-in (recs_for imei list) r (sym (has-listed list imei r) ∙ e)))

    split : (list_any (λ x. not (is_listed before x)) rs ≡ true → 1 ≤ length (fresh list imei rs)) → (b : Bool) → has list imei r ≡ b
        → 1 ≤ length (if b then fresh list imei rs else r ∷ fresh (list ++ stored imei r ∷ []) imei rs)
    split later true e = later (sym (ap (λ b. not b || list_any (λ x. not (is_listed before x)) rs) (known e)) ∙ any)
    split later false e = omega arith
