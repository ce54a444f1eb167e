-- A device's records in an archive's list, by their places.
use Rattle.std.proofs.Common.{◌≡◌, ◌==◌, ◌+◌, ◌<◌, ◌≤◌, ℕ, zero, suc, Bool, true, false, List, [], ◌∷◌, ◌++◌, length, drop, get_or, slice_get, Some, if◌then◌else◌, refl, sym, ◌∙◌, ap, subst, append_assoc, append-nil, arith, eqb-true}
use Rattle.std.proofs.lemmas.List.{at_drop_all, drop_more, length_push}
use Rattle.std.proofs.lemmas.Option.{get_or_from_slice_get, slice_get_within}
use Rattle.avl_values.specs.Record.{Record}
use Rattle.shelf.specs.Archive.{ArePlaces, StoredValue, places_from, places_of, recs_for, stored}

same-stored : (imei : ℕ) (s : StoredValue) → (s.imei == imei) ≡ true → s ≡ stored imei s.rec
same-stored imei s own = λ i. record { imei = eqb-true s.imei imei own i; rec = s.rec }

get-after : (front list : List StoredValue) (s : StoredValue) (k : ℕ) → k ≡ length front → slice_get (front ++ s ∷ list) k ≡ Some s
get-after [] list s k is = ap (slice_get (s ∷ list)) is
get-after (x ∷ front) list s zero is = absurd (omega arith)
get-after (x ∷ front) list s (suc k) is = get-after front list s k (omega arith)

places-after : (front list : List StoredValue) (imei k : ℕ) → k ≡ length front → ArePlaces (front ++ list) imei (recs_for imei list) (places_from k list imei)
places-after front [] imei k is = tt
places-after front (s ∷ list) imei k is =
    split (s.imei == imei) refl (subst (λ (xs : List StoredValue). ArePlaces xs imei (recs_for imei list) (places_from (k + 1) list imei)) (append_assoc front (s ∷ []) list)
    (places-after (front ++ s ∷ []) list imei (k + 1) (let long = length_push front s in omega arith)))
  where
    split : (b : Bool) → (s.imei == imei) ≡ b → ArePlaces (front ++ s ∷ list) imei (recs_for imei list) (places_from (k + 1) list imei)
        → ArePlaces (front ++ s ∷ list) imei (if b then s.rec ∷ recs_for imei list else recs_for imei list) (if b then k ∷ places_from (k + 1) list imei else places_from (k + 1) list imei)
    split true own rest = (get-after front list s k is ∙ ap (λ (x : StoredValue). Some x) (same-stored imei s own), rest)
    split false own rest = rest

-- Some of a device's records were copied, and the others are at these places.
pub record IsCopying (list : List StoredValue) (imei : ℕ) (done : List Record) (places : List ℕ) : Type 0 where
  pub rest : List Record
  pub are : ArePlaces list imei rest places
  pub is : done ++ rest ≡ recs_for imei list

pub copying-first : (list : List StoredValue) (imei : ℕ) (done : List Record) (places : List ℕ) → done ≡ [] → places ≡ places_of list imei → IsCopying list imei done places
copying-first list imei done places none all =
    record { rest = recs_for imei list; are = subst (λ (ps : List ℕ). ArePlaces list imei (recs_for imei list) ps) (sym all) (places-after [] list imei 0 refl); is = ap (λ (rs : List Record). rs ++ recs_for imei list) none }

-- The next one is of the list.
pub record Copies (list : List StoredValue) (imei : ℕ) (done : List Record) (p : ℕ) (places : List ℕ) : Type 0 where
  pub within : p < length list
  pub next : (s : StoredValue) → s ≡ get_or list p s → IsCopying list imei (done ++ s.rec ∷ []) places

copies : (list : List StoredValue) (imei : ℕ) (done : List Record) (p : ℕ) (places : List ℕ) → IsCopying list imei done (p ∷ places) → Copies list imei done p places
copies list imei done p places c = by c.rest c.are c.is
  where
    by : (rest : List Record) → ArePlaces list imei rest (p ∷ places) → done ++ rest ≡ recs_for imei list → Copies list imei done p places
    by [] are is = absurd are
    by (r ∷ rs) are is = record {
      within = slice_get_within list p (stored imei r) are.0;
      next = λ s at.
          let same : s.rec ≡ r = ap (λ (x : StoredValue). x.rec) (at ∙ get_or_from_slice_get list p (stored imei r) s are.0) in
          record { rest = rs; are = are.1; is = append_assoc done (s.rec ∷ []) rs ∙ (ap (λ (x : Record). done ++ x ∷ rs) same ∙ is) };
    }

pub copying-at : (list : List StoredValue) (imei : ℕ) (done : List Record) (places : List ℕ) (i : ℕ) → i < length places → IsCopying list imei done (drop i places) → Copies list imei done (get_or places i 0) (drop (i + 1) places)
copying-at list imei done places i low c = copies list imei done (get_or places i 0) (drop (i + 1) places) (subst (IsCopying list imei done) (drop_more places i 0 low) c)

pub copied-all : (list : List StoredValue) (imei : ℕ) (done : List Record) (places : List ℕ) (i : ℕ) → length places ≤ i → IsCopying list imei done (drop i places) → done ≡ recs_for imei list
copied-all list imei done places i high c = by (subst (IsCopying list imei done) (at_drop_all (λ (ps : List ℕ). ps) places i high) c)
  where
    nothing : (rest : List Record) → ArePlaces list imei rest [] → done ++ rest ≡ recs_for imei list → done ≡ recs_for imei list
    nothing [] are is = sym (append-nil done) ∙ is
    nothing (r ∷ rs) are is = absurd are

    by : IsCopying list imei done [] → done ≡ recs_for imei list
    by d = nothing d.rest d.are d.is
