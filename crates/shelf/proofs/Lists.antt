-- The record list, one record more.
use Rattle.std.proofs.Common.{◌≡◌, ℕ, Bool, true, ◌&&◌, if◌then◌else◌, List, [], ◌∷◌, ◌++◌, length, slice_get, Some, sym, ◌∙◌, ap, refl, subst, arith}
use Rattle.std.specs.Prelude.{◌==◌}
use Rattle.std.proofs.lemmas.Bool.Decides.{nat_tests}
use Rattle.avl_values.specs.Record.{Record}
use Rattle.record_lists.specs.SameRecord.{is_same}
use Rattle.record_lists.proofs.EachOnce.{TellsSame, get-last, place-listed}
use Rattle.record_lists.proofs.SameRecord.{and-left, and-right, records-tell}
use Rattle.shelf.specs.Archive.{StoredValue, stored, is_same_stored, has, add}

-- The same record of the same device.

found-here : (s : StoredValue) (imei : ℕ) (r : Record) → ((s.imei == imei) && is_same s.rec r) ≡ true → s ≡ stored imei r
found-here s imei r is =
    let number : s.imei ≡ imei = (let first = and-left (s.imei == imei) (is_same s.rec r) is in grind (arith, nat_tests, first)) in
    ap (λ n. stored n s.rec) number ∙ ap (λ (x : Record). stored imei x) (records-tell.equal s.rec r (and-right (s.imei == imei) (is_same s.rec r) is))

here-found : (imei : ℕ) (r : Record) → ((imei == imei) && is_same r r) ≡ true
here-found imei r = let rest = records-tell.itself r in grind (arith, nat_tests, rest)

pub stored-tell : TellsSame is_same_stored
stored-tell = record {
  equal = λ s t is. found-here s t.imei t.rec is;
  itself = λ s. here-found s.imei s.rec;
}

-- One record of a packet staged, in the code's words.

pub add-known : (list : List StoredValue) (imei : ℕ) (r : Record) → has list imei r ≡ true → list ≡ add list imei r
add-known list imei r is = let P : Bool → Type 0 = λ b. list ≡ (if b then list else list ++ stored imei r ∷ []) in subst P (sym is) refl

pub added-known : (list : List StoredValue) (imei p : ℕ) (r : Record) → slice_get list p ≡ Some (stored imei r) → list ≡ add list imei r
added-known list imei p r at = add-known list imei r (place-listed is_same_stored stored-tell list (stored imei r) p at)

pub put-place : (list pushed : List StoredValue) (imei p : ℕ) (r : Record) → p ≡ length list → pushed ≡ list ++ stored imei r ∷ [] → slice_get pushed p ≡ Some (stored imei r)
put-place list pushed imei p r at is = ap (λ (l : List StoredValue). slice_get l p) is ∙ ap (λ n. slice_get (list ++ stored imei r ∷ []) n) at ∙ get-last list (stored imei r)
