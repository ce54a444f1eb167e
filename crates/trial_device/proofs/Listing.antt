-- A list with each record once, in the code's words.
use Rattle.std.proofs.Common.{◌≡◌, inl, inr, ℕ, ◌+◌, ◌≤◌, ◌<◌, true, false, List, [], ◌∷◌, ◌++◌, length, get_or, drop, slice_get, Option, Some, None, IsSome, refl, sym, ap, ◌∙◌, subst, arith, add-one, drop-cons}
use Rattle.std.specs.List.{fold}
use Rattle.std.specs.BTreeMap.{BTreeMap, Updates}
use Rattle.std.specs.Ordering.{is_eq, nat_cmp}
use Rattle.std.proofs.lemmas.Bool.{false≢true}
use Rattle.std.proofs.lemmas.List.{drop_all, get_or-map, length-map, map-append}
use Rattle.std.proofs.lemmas.Option.{slice_get-get_or}
use Rattle.avl_values.specs.Record.{Record}
use Rattle.avl_values.specs.Viewed.{record_of, records_viewed}
use Rattle.avl_values.specs.declared.rec.Rec.{Rec}
use Rattle.record_lists.specs.SameRecord.{is_same}
use Rattle.record_lists.proofs.EachOnce.{get-cases, not-listed, place-listed}
use Rattle.record_lists.proofs.SameRecord.{records-tell}
use Rattle.trial_model.specs.RecordLists.{is_listed}
use Rattle.trial_device.specs.Index.{IsIndexed, digest_of, mixed_with, place_in}
use Rattle.trial_device.proofs.Onces.{either}

-- a listed record has its digest in the index
pub not-indexed : (list : List Record) (find : ℕ → Option ℕ) (r : Record) → IsIndexed list find → find (digest_of r) ≡ None → is_listed list r ≡ false
not-indexed list find r indexed none =
    let P : Option ℕ → Type 0 = λ o. IsSome o in
    not-listed is_same records-tell list r (λ p at. false≢true (subst P none (indexed.each p r at)))

-- A digest made byte by byte.
pub digest-more : (bytes : List ℕ) (i next digest more value : ℕ) → i < length bytes → next ≡ i + 1 → more ≡ mixed_with digest (get_or bytes i 0) → fold mixed_with digest (drop i bytes) ≡ value
    → fold mixed_with more (drop next bytes) ≡ value
digest-more bytes i next digest more value low at is was =
    ap (λ d. fold mixed_with d (drop next bytes)) is
    ∙ ap (λ k. fold mixed_with (mixed_with digest (get_or bytes i 0)) (drop k bytes)) (at ∙ add-one i)
    ∙ sym (ap (fold mixed_with digest) (drop-cons bytes i 0 low)) ∙ was

pub digest-last : (bytes : List ℕ) (i digest value : ℕ) → length bytes ≤ i → fold mixed_with digest (drop i bytes) ≡ value → digest ≡ value
digest-last bytes i digest value past was = sym (ap (fold mixed_with digest) (drop_all i bytes past)) ∙ was

-- The list in the code's words, over its records as they are stored.

pub stored-at : (list : List Rec) (k : ℕ) (x : Rec) (r : Record) → k < length list → x ≡ get_or list k x → is_same (record_of x) r ≡ true → is_listed (records_viewed list) r ≡ true
stored-at list k x r low read same =
    let at : get_or (records_viewed list) k (record_of x) ≡ record_of x = get_or-map record_of list k x (record_of x) low ∙ ap record_of (sym read) in
    let there = slice_get-get_or (records_viewed list) k (record_of x) (omega (arith, length-map list record_of)) in
    place-listed is_same records-tell (records_viewed list) r k (there ∙ ap Some (at ∙ records-tell.equal (record_of x) r same))

-- One record more, under its digest.

digest-stays : (places more : BTreeMap ℕ ℕ) (digest place q : ℕ) → Updates nat_cmp places more digest (Some place) → IsSome (place_in places q) → IsSome (place_in more q)
digest-stays places more digest place q updates some =
    let P : Option ℕ → Type 0 = λ o. IsSome o in
    subst P (sym (updates.0 q)) (either P (is_eq (nat_cmp digest q)) (Some place) (place_in places q) refl some)

pub indexed-push : (list pushed : List Record) (r : Record) (places more : BTreeMap ℕ ℕ) (digest place : ℕ) → IsIndexed list (place_in places) → Updates nat_cmp places more digest (Some place) → digest ≡ digest_of r
    → pushed ≡ list ++ r ∷ [] → IsIndexed pushed (place_in more)
indexed-push list pushed r places more digest place indexed updates is all =
    let each : (p : ℕ) (s : Record) → slice_get (list ++ r ∷ []) p ≡ Some s → IsSome (place_in more (digest_of s)) = λ p s at.
    elim (get-cases list r p s at) as (λ _. IsSome (place_in more (digest_of s))) [
      | inl old ↦ digest-stays places more digest place (digest_of s) updates (indexed.each p s old)
      | inr last ↦
          (let there : place_in more digest ≡ Some place = updates.1 in
          let P : Option ℕ → Type 0 = λ o. IsSome o in
          let found : IsSome (place_in more digest) = subst P (sym there) refl in
          let Q : ℕ → Type 0 = λ n. IsSome (place_in more n) in
          subst Q (is ∙ ap digest_of (sym last.1)) found)
    ] in
    subst (λ (xs : List Record). IsIndexed xs (place_in more)) (sym all) (record { each = each })

pub pushed-records : (items mid pushed : List Rec) (x y : Rec) → mid ≡ items → pushed ≡ mid ++ x ∷ [] → record_of x ≡ record_of y → records_viewed pushed ≡ records_viewed items ++ record_of y ∷ []
pushed-records items mid pushed x y same all is =
    ap records_viewed (all ∙ ap (λ l. l ++ x ∷ []) same) ∙ map-append record_of items (x ∷ []) ∙ ap (λ r. records_viewed items ++ r ∷ []) is
