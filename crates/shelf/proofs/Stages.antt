-- A packet staged, record by record.
use Rattle.std.proofs.Common.{◌≡◌, ℕ, ◌+◌, ◌<◌, Bool, true, false, List, [], ◌∷◌, ◌++◌, length, slice_get, Some, sym, ◌∙◌, ap, refl, subst, arith, length-append, append_assoc, if◌then◌else◌}
use Rattle.std.specs.List.{AllByRecursion}
use Rattle.std.proofs.lemmas.List.{append-nil, length-map}
use Rattle.avl_values.specs.Record.{Record}
use Rattle.avl_values.specs.declared.codec.Codec.{Codec}
use Rattle.record_layout.specs.SomeRecord.{IsSomeRecord}
use Rattle.record_layout.specs.RecordsOf.{records_of}
use Rattle.archive_journal.proofs.Packets.{IsWhole, in_codec}
use Rattle.shelf.specs.Archive.{StoredValue, stored, has, add, admitted, ArePlaces, Begins}
use Rattle.record_lists.proofs.EachOnce.{get-front}

pub begins-self : (list : List StoredValue) → Begins list list
begins-self list = record { more = []; is = sym (append-nil list) }

pub begins-then : (a b c : List StoredValue) → Begins a b → Begins b c → Begins a c
begins-then a b c first second = record {
  more = first.more ++ second.more;
  is = second.is ∙ ap (λ (l : List StoredValue). l ++ second.more) first.is ∙ append_assoc a first.more second.more;
}

begins-add : (list : List StoredValue) (imei : ℕ) (r : Record) → Begins list (add list imei r)
begins-add list imei r = split (has list imei r)
  where
    split : (b : Bool) → Begins list (if b then list else list ++ stored imei r ∷ [])
    split true = begins-self list
    split false = record { more = stored imei r ∷ []; is = refl }

places-later : (list more : List StoredValue) (imei : ℕ) (rs : List Record) (ps : List ℕ) → Begins list more → ArePlaces list imei rs ps → ArePlaces more imei rs ps
places-later list more imei [] [] b are = tt
places-later list more imei [] (p ∷ ps) b are = are
places-later list more imei (r ∷ rs) [] b are = are
places-later list more imei (r ∷ rs) (p ∷ ps) b are =
    (ap (λ (l : List StoredValue). slice_get l p) b.is ∙ get-front list b.more p (stored imei r) are.0, places-later list more imei rs ps b are.1)

places-push : (list : List StoredValue) (imei : ℕ) (rs : List Record) (ps : List ℕ) (r : Record) (p : ℕ) → ArePlaces list imei rs ps → slice_get list p ≡ Some (stored imei r)
    → ArePlaces list imei (rs ++ r ∷ []) (ps ++ p ∷ [])
places-push list imei [] [] r p are at = (at, tt)
places-push list imei [] (q ∷ ps) r p are at = absurd are
places-push list imei (s ∷ rs) [] r p are at = absurd are
places-push list imei (s ∷ rs) (q ∷ ps) r p are at = (are.0, places-push list imei rs ps r p are.1 at)

places-count : (list : List StoredValue) (imei : ℕ) (rs : List Record) (ps : List ℕ) → ArePlaces list imei rs ps → length ps ≡ length rs
places-count list imei [] [] are = refl
places-count list imei [] (p ∷ ps) are = absurd are
places-count list imei (r ∷ rs) [] are = absurd are
places-count list imei (r ∷ rs) (p ∷ ps) are = let rest = places-count list imei rs ps are.1 in omega arith

-- The first records of a packet have been staged.
pub record Staging (start : List StoredValue) (imei : ℕ) (codec : Codec) (all : List Record) (list : List StoredValue) (places : List ℕ) (left : List (List ℕ)) : Type 0 where
  pub done : List Record
  pub split : done ++ in_codec codec left ≡ all
  pub grows : admitted list imei (in_codec codec left) ≡ admitted start imei all
  pub begins : Begins start list
  pub placed : ArePlaces list imei done places
  pub sound : AllByRecursion (IsSomeRecord codec) left

pub staging-first : (start : List StoredValue) (imei : ℕ) (codec : Codec) (body : List ℕ) (left : List (List ℕ)) (w : IsWhole codec body) → left ≡ w.rs → Staging start imei codec (records_of body) start [] left
staging-first start imei codec body left w is = record {
  done = [];
  split = ap (in_codec codec) is ∙ sym w.read;
  grows = ap (admitted start imei) (ap (in_codec codec) is ∙ sym w.read);
  begins = begins-self start;
  placed = tt;
  sound = subst (AllByRecursion (IsSomeRecord codec)) (sym is) w.is.each;
}

module _ (start : List StoredValue) (imei : ℕ) (codec : Codec) (all : List Record) (list : List StoredValue) (places : List ℕ) (left : List (List ℕ)) where
  pub staging-room : (r : List ℕ) (rest : List (List ℕ)) → Staging start imei codec all list places left → left ≡ r ∷ rest → length places < length all
  staging-room r rest s is =
      let count = places-count list imei s.done places s.placed in
      let size = ap length s.split in
      let more : length (in_codec codec left) ≡ length rest + 1 = ap (λ (l : List (List ℕ)). length (in_codec codec l)) is ∙ omega (arith, length-map rest (λ b. let x : Record = record { codec = codec; bytes = b } in x)) in
      omega (arith, length-append s.done (in_codec codec left))

  pub staging-more : (r : List ℕ) (rest : List (List ℕ)) (more : List StoredValue) (p : ℕ) (longer : List ℕ) → Staging start imei codec all list places left → left ≡ r ∷ rest
      → more ≡ add list imei (record { codec = codec; bytes = r }) → slice_get more p ≡ Some (stored imei (record { codec = codec; bytes = r }))
      → longer ≡ places ++ p ∷ [] → Staging start imei codec all more longer rest
  staging-more r rest more p longer s is added at longer_is =
      let this : Record = record { codec = codec; bytes = r } in
      let P : List StoredValue → Type 0 = λ l. Begins list l in
      let begins = subst P (sym added) (begins-add list imei this) in
      let Q : List ℕ → Type 0 = λ l. ArePlaces more imei (s.done ++ this ∷ []) l in
      record {
        done = s.done ++ this ∷ [];
        split = append_assoc s.done (this ∷ []) (in_codec codec rest) ∙ ap (λ (l : List (List ℕ)). s.done ++ in_codec codec l) (sym is) ∙ s.split;
        grows = ap (λ (l : List StoredValue). admitted l imei (in_codec codec rest)) added ∙ ap (λ (l : List (List ℕ)). admitted list imei (in_codec codec l)) (sym is) ∙ s.grows;
        begins = begins-then start list more s.begins begins;
        placed = subst Q (sym longer_is) (places-push more imei s.done places this p (places-later list more imei s.done places begins s.placed) at);
        sound = (subst (AllByRecursion (IsSomeRecord codec)) is s.sound).1;
      }

pub few-records : (codec : Codec) (body : List ℕ) (w : IsWhole codec body) → length (records_of body) < 256
few-records codec body w =
    let few = w.is.few in
    let count : length (records_of body) ≡ length w.rs = ap length w.read ∙ length-map w.rs (λ r. let x : Record = record { codec = codec; bytes = r } in x) in
    omega arith
