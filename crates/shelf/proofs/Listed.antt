-- A listing over its changes.
use Rattle.std.proofs.Common.{◌≡◌, ℕ, false, List, [], ◌∷◌, ◌++◌, length, Option, Some, None, sym, ◌∙◌, ap, subst}
use Rattle.std.specs.BTreeMap.{BTreeMap, Updates, is_at}
use Rattle.std.specs.Map.{lookup}
use Rattle.avl_values.specs.Record.{Record}
use Rattle.shelf.specs.Archive.{StoredValue, stored, is_same_stored, has}
use Rattle.shelf.specs.Devices.{IsCounted}
use Rattle.shelf.specs.Index.{Key, key_cmp, place_in, digest_for, IsIndexed, IsFree, IsListing}
use Rattle.shelf.specs.declared.devices.Devices.{Devices}
use Rattle.shelf.proofs.Indexed.{indexed-kept, indexed-more}
use Rattle.record_lists.proofs.EachOnce.{once-more}
use Rattle.shelf.proofs.Lists.{stored-tell}

abbrev under : List (Key × ℕ) → Key → Option ℕ
under es key = lookup (is_at (key_cmp key)) es

-- nothing has changed
pub listing-same : (list items : List StoredValue) (places new : BTreeMap Key ℕ) (d : Devices) → items ≡ list → new.entries ≡ places.entries → IsListing list places d → IsListing items new d
listing-same list items places new d same unchanged is =
    let P : List StoredValue → Type 0 = λ l. IsListing l new d in
    let Q : List (Key × ℕ) → Type 0 = λ es. IsIndexed list (under es) in
    subst P (sym same) (record { once = is.once; indexed = subst Q (sym unchanged) is.indexed; counted = is.counted })

module _ (list items seen : List StoredValue) (places new : BTreeMap Key ℕ) (d e : Devices) (imei number key place : ℕ) (r : Record)
    (is : IsListing list places d) (fresh : has list imei r ≡ false) (free : IsFree (place_in places) imei (digest_for r) number) (device : key ≡ imei)
    (updates : Updates key_cmp places new (key, number) (Some place)) (same : items ≡ list) (read : seen ≡ items) where
  none : place_in places (key, number) ≡ None
  none = ap (λ (n : ℕ). place_in places (n, number)) device ∙ free.none

  -- an index with more
  pub listing-noted : IsCounted seen e → IsListing items new e
  listing-noted counted =
      let P : List StoredValue → Type 0 = λ l. IsListing l new e in
      let Q : List StoredValue → Type 0 = λ l. IsCounted l e in
      subst P (sym same) (record {
        once = is.once;
        indexed = indexed-kept places new (key, number) place updates none list is.indexed;
        counted = subst Q (read ∙ same) counted;
      })

  -- a record more
  pub listing-put : (pushed : List StoredValue) → place ≡ length list → IsCounted (seen ++ stored imei r ∷ []) e → pushed ≡ items ++ stored imei r ∷ [] → IsListing pushed new e
  listing-put pushed at counted last =
      let P : List StoredValue → Type 0 = λ l. IsListing l new e in
      let Q : List StoredValue → Type 0 = λ l. IsCounted (l ++ stored imei r ∷ []) e in
      subst P (sym (last ∙ ap (λ (l : List StoredValue). l ++ stored imei r ∷ []) same)) (record {
        once = once-more is_same_stored stored-tell list (stored imei r) fresh is.once;
        indexed = indexed-more places new (key, number) place updates none list imei r is.indexed free device at;
        counted = subst Q (read ∙ same) counted;
      })
