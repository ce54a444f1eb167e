-- The new records of a packet make an entry.
use Rattle.std.proofs.Common.{◌≡◌, ℕ, ◌<◌, ◌≤◌, ◌^◌, Bool, true, false, if◌then◌else◌, List, [], ◌∷◌, ◌++◌, length, ◌∙◌, ap, refl, arith, length-append}
use Rattle.std.specs.List.{flat_map, AllByRecursion}
use Rattle.avl_values.specs.Record.{Record}
use Rattle.avl_values.specs.declared.codec.Codec.{Codec}
use Rattle.record_layout.specs.RecordsOf.{records_of}
use Rattle.archive_journal.specs.Body.{joined}
use Rattle.archive_journal.specs.Entry.{IsIn}
use Rattle.archive_journal.proofs.Packets.{IsWhole, in_codec, packet-entry}
use Rattle.shelf.specs.Archive.{StoredValue, stored, has, fresh}
use Rattle.shelf.specs.Shelf.{MakesEntry, calls_for}

-- What holds of a list of records holds of those of them that are new.
fresh-each : (codec : Codec) (list : List StoredValue) (imei : ℕ) (rs : List Record) → AllByRecursion (IsIn codec) rs → AllByRecursion (IsIn codec) (fresh list imei rs)
fresh-each codec list imei [] all = tt
fresh-each codec list imei (r ∷ rs) all = split (has list imei r) (fresh-each codec list imei rs all.1) (fresh-each codec (list ++ stored imei r ∷ []) imei rs all.1)
  where
    split : (b : Bool) → AllByRecursion (IsIn codec) (fresh list imei rs) → AllByRecursion (IsIn codec) (fresh (list ++ stored imei r ∷ []) imei rs)
        → AllByRecursion (IsIn codec) (if b then fresh list imei rs else r ∷ fresh (list ++ stored imei r ∷ []) imei rs)
    split true known new = known
    split false known new = (all.0, new)

fresh-count : (list : List StoredValue) (imei : ℕ) (rs : List Record) → length (fresh list imei rs) ≤ length rs
fresh-count list imei [] = omega arith
fresh-count list imei (r ∷ rs) = split (has list imei r) (fresh-count list imei rs) (fresh-count (list ++ stored imei r ∷ []) imei rs)
  where
    split : (b : Bool) → length (fresh list imei rs) ≤ length rs → length (fresh (list ++ stored imei r ∷ []) imei rs) ≤ length rs
        → length (if b then fresh list imei rs else r ∷ fresh (list ++ stored imei r ∷ []) imei rs) ≤ length (r ∷ rs)
    split true known new = omega arith
    split false known new = omega arith

fresh-bytes : (list : List StoredValue) (imei : ℕ) (rs : List Record) → length (joined (fresh list imei rs)) ≤ length (joined rs)
fresh-bytes list imei [] = omega arith
fresh-bytes list imei (r ∷ rs) = split (has list imei r) (fresh-bytes list imei rs) (fresh-bytes (list ++ stored imei r ∷ []) imei rs)
  where
    split : (b : Bool) → length (joined (fresh list imei rs)) ≤ length (joined rs) → length (joined (fresh (list ++ stored imei r ∷ []) imei rs)) ≤ length (joined rs)
        → length (joined (if b then fresh list imei rs else r ∷ fresh (list ++ stored imei r ∷ []) imei rs)) ≤ length (joined (r ∷ rs))
    split true known new = omega (arith, length-append r.bytes (joined rs))
    split false known new = omega (arith, length-append r.bytes (joined rs), length-append r.bytes (joined (fresh (list ++ stored imei r ∷ []) imei rs)))

joined-in : (codec : Codec) (rs : List (List ℕ)) → joined (in_codec codec rs) ≡ flat_map (λ r. r) rs
joined-in codec [] = refl
joined-in codec (r ∷ rs) = ap (λ (l : List ℕ). r ++ l) (joined-in codec rs)

joined-few : (codec : Codec) (body : List ℕ) (w : IsWhole codec body) → length (joined (records_of body)) ≤ length body
joined-few codec body w =
    let bytes = flat_map (λ r. r) w.rs in
    let same = ap (λ (l : List Record). length (joined l)) w.read ∙ ap length (joined-in codec w.rs) in
    omega (arith, ap length w.is.is, length-append bytes (length w.rs ∷ []))

pub makes-entry : (codec : Codec) (list : List StoredValue) (imei : ℕ) (body : List ℕ) → IsWhole codec body → length body ≤ 2 ^ 31 → 0 < length (fresh list imei (records_of body)) → MakesEntry (fresh list imei (records_of body))
makes-entry codec list imei body w few some =
    let all = packet-entry codec body w in
    let most = all.few in
    record {
      codec = codec;
      is = record { some = some; few = omega (arith, fresh-count list imei (records_of body)); each = fresh-each codec list imei (records_of body) all.each };
      few = omega (arith, fresh-bytes list imei (records_of body), joined-few codec body w);
    }

pub calls-four : (rs : List Record) → 0 < length rs → calls_for rs ≡ 4
calls-four [] some = absurd (omega arith)
calls-four (r ∷ rs) some = refl
