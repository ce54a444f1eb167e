-- Lists that hold each record once, and one record more.
use Rattle.std.proofs.Common.{◌≡◌, ◌⊎◌, inl, inr, Bool, true, false, List, [], ◌∷◌, ◌++◌, drop, fold, if◌then◌else◌, refl, subst, arith}
use Rattle.std.specs.List.{All, Contains}
use Rattle.std.proofs.lemmas.List.Elements.{All-push, Contains-append_left, Contains-push}
use Rattle.std.proofs.lemmas.Option.{get_or_from_slice_get, slice_get_within}
use Rattle.avl_values.specs.Record.{Record}
use Rattle.record_lists.specs.EachOnce.{IsOnce}
use Rattle.record_lists.specs.SameRecord.{is_same}
use Rattle.record_lists.proofs.EachOnce.{listed-place, once-add}
use Rattle.record_lists.proofs.SameRecord.{records-tell}
use Rattle.flash_ring.proofs.Batches.{contains-cases}
use Rattle.trial_model.specs.RecordLists.{add_once, first_places, is_listed}
use Rattle.trial_device.specs.Storing.{with_first}

-- a listed record is one of the list
in-if-listed : (records : List Record) (r : Record) → is_listed records r ≡ true → Contains records r
in-if-listed records r is = let at = listed-place is_same records-tell records r is in (at.0, slice_get_within records at.0 r at.1, get_or_from_slice_get records at.0 r r at.1)

-- what holds of either holds of the one that is taken
pub either : {A : Type 0} (P : A → Type 0) (b : Bool) (x y : A) → P x → P y → P (if b then x else y)
either P true x y at_x at_y = at_x
either P false x y at_x at_y = at_y

pub add-has : (records : List Record) (r : Record) → Contains (add_once records r) r
add-has records r = by-listed (is_listed records r) refl
  where
    by-listed : (listed : Bool) → is_listed records r ≡ listed → Contains (add_once records r) r
    by-listed true is = rw is (in-if-listed records r is)
    by-listed false is = rw is (Contains-push records r)

pub add-keeps : (records : List Record) (s r : Record) → Contains records r → Contains (add_once records s) r
add-keeps records s r has = either (λ xs. Contains xs r) (is_listed records s) records (records ++ s ∷ []) has (Contains-append_left records (s ∷ []) r has)

pub add-all : (P : Record → Type 0) (records : List Record) (r : Record) → All P records → P r → All P (add_once records r)
add-all P records r every at = either (All P) (is_listed records r) records (records ++ r ∷ []) every (All-push P records r every at)

-- one record more in a fold
fold-push : (before records : List Record) (r : Record) → fold add_once before (records ++ r ∷ []) ≡ add_once (fold add_once before records) r
fold-push before [] r = refl
fold-push before (x ∷ records) r = fold-push (add_once before x) records r

-- the first places of the decided records, with one decision more
pub first_places-push : (records : List Record) (r : Record) → first_places (records ++ r ∷ []) ≡ add_once (first_places records) r
first_places-push records r = fold-push [] records r

-- The first of some records, added.

pub first-keeps : (records listed : List Record) (r : Record) → Contains listed r → Contains (with_first records listed) r
first-keeps [] listed r has = has
first-keeps (x ∷ records) listed r has = add-keeps listed x r has

pub first-once : (records listed : List Record) → IsOnce listed → IsOnce (with_first records listed)
first-once [] listed once = once
first-once (x ∷ records) listed once = once-add is_same records-tell listed x once

-- each of them is added, or is one of the rest
pub first-or-rest : (records listed : List Record) (r : Record) → Contains records r → Contains (drop 1 records) r ⊎ Contains (with_first records listed) r
first-or-rest [] listed r has = absurd (omega (arith, has.1))
first-or-rest (x ∷ records) listed r has = elim (contains-cases r x records has) as (λ _. Contains records r ⊎ Contains (add_once listed x) r) [
  | inl here ↦ inr (subst (Contains (add_once listed x)) here (add-has listed x))
  | inr later ↦ inl later
]
