-- What the record list and the images of a shelf keep to, whatever is answered.
use Rattle.std.proofs.Common.{◌≡◌, ℕ, Bool, true, false, ◌==◌, if◌then◌else◌, List, [], ◌∷◌, ◌++◌, map, Option, Some, None, Result, sym, ◌∙◌, ap, refl, subst, append_assoc}
use Rattle.std.proofs.lemmas.Option.{none-some, same_Some}
use Rattle.avl_values.specs.Record.{Record}
use Rattle.medium_model.specs.Content.{Content, settled}
use Rattle.medium_model.specs.Images.{unchanged, changed}
use Rattle.medium_model.specs.Images as images
use Rattle.medium_model.specs.PowerLoss.{IsImage, EveryImage}
use Rattle.medium_model.specs.State.{IfTold}
use Rattle.medium_model.proofs.Images.{every-map, settled-image}
use Rattle.record_layout.specs.RecordsOf.{records_of}
use Rattle.archive_journal.specs.Body.{EntryValue}
use Rattle.archive_journal.specs.Entries.{entries_of}
use Rattle.archive_journal.specs.Journal.{HoldsWith, EachHolds, IsEither, IsTold, entries_told, with_entry}
use Rattle.shelf.specs.Archive.{StoredValue, stored, has, add, admitted, fresh, listed, list_of, all_of, archived, recs_for, HoldEachOnce, is_same_stored}
use Rattle.shelf.specs.Shelf.{ShelfView, IsDurable, HasList, ListsEither, new_entry, Leaves}
use Rattle.shelf.specs.declared.receipt.Receipt.{Receipt}
use Rattle.shelf.specs.declared.receipt.AdmitFault.{AdmitFault}
use Rattle.record_lists.specs.EachOnce.{IsOnce}
use Rattle.record_lists.proofs.EachOnce.{once-none, once-add}
use Rattle.shelf.proofs.Lists.{stored-tell}
use Rattle.shelf.proofs.Leaving.{admitted-fresh, fresh-again, listed-more}

-- A record list has each record of a device once.

pub once-admitted : (list : List StoredValue) (imei : ℕ) (rs : List Record) → IsOnce list → IsOnce (admitted list imei rs)
once-admitted list imei [] once = once
once-admitted list imei (r ∷ rs) once = once-admitted (add list imei r) imei rs (once-add is_same_stored stored-tell list (stored imei r) once)

once-listed : (list : List StoredValue) (es : List EntryValue) → IsOnce list → IsOnce (listed list es)
once-listed list [] once = once
once-listed list (e ∷ es) once = once-listed (admitted list e.imei e.records) es (once-admitted list e.imei e.records once)

pub list_of-once : (es : List EntryValue) → IsOnce (list_of es)
list_of-once es = once-listed [] es once-none

-- After any answer each image has the list before, or the one after.

pub lists-after : (old new : ShelfView) (imei : ℕ) (body : List ℕ) (result : Result Receipt AdmitFault) → IsDurable old → Leaves old imei body result new
    → EachHolds new.medium (ListsEither old.list (admitted old.list imei (records_of body)))
lists-after old new imei body result durable leaves = images-of old.medium.content new.medium.content durable.reads (leaves.images durable.up)
  where
    either : (es fs : List EntryValue) → list_of es ≡ old.list → images.IsEither (Some es) (with_entry (new_entry old.list imei (records_of body)) (Some es)) (Some fs) → images.IsEither old.list (admitted old.list imei (records_of body)) (list_of fs)
    either es fs has (unchanged is) = unchanged (ap list_of (same_Some fs es is) ∙ has)
    either es fs has (changed is) = changed (ap list_of (same_Some fs (es ++ new_entry old.list imei (records_of body) ∷ []) is) ∙ listed-more [] es (new_entry old.list imei (records_of body))
        ∙ ap (λ (l : List StoredValue). admitted l imei (fresh old.list imei (records_of body))) has ∙ fresh-again old.list imei (records_of body))

    nothing : (fs : List EntryValue) → images.IsEither None None (Some fs) → ListsEither old.list (admitted old.list imei (records_of body)) fs
    nothing fs (unchanged is) = absurd (none-some fs (sym is))
    nothing fs (changed is) = absurd (none-some fs (sym is))

    images-of : (o n : Option Content) → IfTold o (HasList old.list) → EveryImage n (HoldsWith (IsEither (entries_told o) (with_entry (new_entry old.list imei (records_of body)) (entries_told o))))
        → EveryImage n (HoldsWith (ListsEither old.list (admitted old.list imei (records_of body))))
    images-of None n has every = every-map n _ _ (λ image held. record { sound = held.sound; holds = nothing (entries_of image) held.holds.is }) every
    images-of (Some c) n has every = every-map n _ _ (λ image held. record { sound = held.sound; holds = record { is = either (entries_of c.reads) (entries_of image) has.is held.holds.is } }) every

-- Of a shelf that is up, what is true of the entries that are read is true of those of each image, and the other way round.

pub reads-hold : (v : ShelfView) (P : List EntryValue → Type 0) → IsDurable v → EachHolds v.medium P → IfTold v.medium.content (λ c. P (entries_of c.reads))
reads-hold v P durable every = of v.medium.content durable.rest every
  where
    of : (o : Option Content) → IfTold o (λ c. c ≡ settled c.reads) → EveryImage o (HoldsWith P) → IfTold o (λ c. P (entries_of c.reads))
    of None rest every = tt
    of (Some c) rest every = let Q : Content → Type 0 = λ d. IsImage d c.reads in (every c.reads (subst Q (sym rest) (settled-image c.reads))).holds

pub each-holds : (v : ShelfView) (P : List EntryValue → Type 0) → IsDurable v → IfTold v.medium.content (λ c. P (entries_of c.reads)) → EachHolds v.medium P
each-holds v P durable reads = of v.medium.content durable.told reads
  where
    of : (o : Option Content) → EveryImage o (HoldsWith (IsTold (entries_told o))) → IfTold o (λ c. P (entries_of c.reads)) → EveryImage o (HoldsWith P)
    of None told reads = tt
    of (Some c) told reads = λ image im. let held = told image im in record { sound = held.sound; holds = subst P (sym (same_Some (entries_of image) (entries_of c.reads) held.holds.is)) reads }

-- The entries that `admit` appends hold no record of a device twice.

pub all_of-more : (es : List EntryValue) (e : EntryValue) → all_of (es ++ e ∷ []) ≡ all_of es ++ map (stored e.imei) e.records
all_of-more [] e = append-none (map (stored e.imei) e.records)
  where
    append-none : (xs : List StoredValue) → xs ++ [] ≡ xs
    append-none [] = refl
    append-none (x ∷ xs) = ap (λ (l : List StoredValue). x ∷ l) (append-none xs)
all_of-more (f ∷ es) e = ap (λ (l : List StoredValue). map (stored f.imei) f.records ++ l) (all_of-more es e) ∙ sym (append_assoc (map (stored f.imei) f.records) (all_of es) (map (stored e.imei) e.records))

pub each_once-none : HoldEachOnce []
each_once-none = record { is = refl }

pub each_once-more : (es : List EntryValue) (imei : ℕ) (rs : List Record) → HoldEachOnce es → HoldEachOnce (es ++ new_entry (list_of es) imei rs ∷ [])
each_once-more es imei rs once = record {
  is = all_of-more es (new_entry (list_of es) imei rs)
      ∙ ap (λ (l : List StoredValue). l ++ map (stored imei) (fresh (list_of es) imei rs)) once.is
      ∙ sym (admitted-fresh (list_of es) imei rs) ∙ sym (fresh-again (list_of es) imei rs) ∙ sym (listed-more [] es (new_entry (list_of es) imei rs));
}

pub each_once-after : (old new : ShelfView) (imei : ℕ) (body : List ℕ) (result : Result Receipt AdmitFault) → IsDurable old → IfTold old.medium.content (λ c. HoldEachOnce (entries_of c.reads))
    → Leaves old imei body result new → EachHolds new.medium HoldEachOnce
each_once-after old new imei body result durable once leaves = images-of old.medium.content new.medium.content durable.reads once (leaves.images durable.up)
  where
    either : (es fs : List EntryValue) → list_of es ≡ old.list → HoldEachOnce es → images.IsEither (Some es) (with_entry (new_entry old.list imei (records_of body)) (Some es)) (Some fs) → HoldEachOnce fs
    either es fs has once (unchanged is) = subst HoldEachOnce (sym (same_Some fs es is)) once
    either es fs has once (changed is) =
        let P : List StoredValue → Type 0 = λ l. HoldEachOnce (es ++ new_entry l imei (records_of body) ∷ []) in
        subst HoldEachOnce (sym (same_Some fs (es ++ new_entry old.list imei (records_of body) ∷ []) is)) (subst P has (each_once-more es imei (records_of body) once))

    nothing : (fs : List EntryValue) → images.IsEither None None (Some fs) → HoldEachOnce fs
    nothing fs (unchanged is) = absurd (none-some fs (sym is))
    nothing fs (changed is) = absurd (none-some fs (sym is))

    images-of : (o n : Option Content) → IfTold o (HasList old.list) → IfTold o (λ c. HoldEachOnce (entries_of c.reads))
        → EveryImage n (HoldsWith (IsEither (entries_told o) (with_entry (new_entry old.list imei (records_of body)) (entries_told o)))) → EveryImage n (HoldsWith HoldEachOnce)
    images-of None n has once every = every-map n _ _ (λ image held. record { sound = held.sound; holds = nothing (entries_of image) held.holds.is }) every
    images-of (Some c) n has once every = every-map n _ _ (λ image held. record { sound = held.sound; holds = either (entries_of c.reads) (entries_of image) has.is once held.holds.is }) every

-- A device's records in the entries are those in all that they hold.

recs_for-append : (imei : ℕ) (xs ys : List StoredValue) → recs_for imei (xs ++ ys) ≡ recs_for imei xs ++ recs_for imei ys
recs_for-append imei [] ys = refl
recs_for-append imei (x ∷ xs) ys = split (x.imei == imei) (recs_for-append imei xs ys)
  where
    split : (b : Bool) → recs_for imei (xs ++ ys) ≡ recs_for imei xs ++ recs_for imei ys
        → (if b then x.rec ∷ recs_for imei (xs ++ ys) else recs_for imei (xs ++ ys)) ≡ (if b then x.rec ∷ recs_for imei xs else recs_for imei xs) ++ recs_for imei ys
    split true rest = ap (λ (l : List Record). x.rec ∷ l) rest
    split false rest = rest

recs_for-stored : (imei device : ℕ) (rs more : List Record) → recs_for imei (map (stored device) rs) ++ more ≡ (if device == imei then rs ++ more else more)
recs_for-stored imei device [] more = split (device == imei)
  where
    split : (b : Bool) → more ≡ (if b then more else more)
    split true = refl
    split false = refl
recs_for-stored imei device (r ∷ rs) more = split (device == imei) (recs_for-stored imei device rs more)
  where
    split : (b : Bool) → recs_for imei (map (stored device) rs) ++ more ≡ (if b then rs ++ more else more)
        → (if b then r ∷ recs_for imei (map (stored device) rs) else recs_for imei (map (stored device) rs)) ++ more ≡ (if b then r ∷ (rs ++ more) else more)
    split true rest = ap (λ (l : List Record). r ∷ l) rest
    split false rest = rest

pub archived-is : (imei : ℕ) (es : List EntryValue) → archived imei es ≡ recs_for imei (all_of es)
archived-is imei [] = refl
archived-is imei (e ∷ es) =
    sym (recs_for-append imei (map (stored e.imei) e.records) (all_of es)
    ∙ recs_for-stored imei e.imei e.records (recs_for imei (all_of es))
    ∙ ap (λ (l : List Record). if e.imei == imei then e.records ++ l else l) (sym (archived-is imei es)))

pub archived-once : (imei : ℕ) (es : List EntryValue) → HoldEachOnce es → archived imei es ≡ recs_for imei (list_of es)
archived-once imei es once = archived-is imei es ∙ ap (recs_for imei) once.is
