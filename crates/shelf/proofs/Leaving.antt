-- What each exit of `admit` leaves.
use Rattle.std.proofs.Common.{◌≡◌, inl, inr, ℕ, ◌<◌, ◌≤◌, Bool, true, false, if◌then◌else◌, List, [], ◌∷◌, ◌++◌, length, take, drop, map, Option, Some, None, Ok, Err, sym, ◌∙◌, ap, refl, subst, arith, length-append, append_assoc}
use Rattle.std.proofs.lemmas.List.{append-nil, length-map, take_at, drop_at}
use Rattle.std.proofs.lemmas.Bool.{cases_lt}
use Rattle.std.proofs.lemmas.Option.{same_Some}
use Rattle.avl_values.specs.Causes.{Rose}
use Rattle.avl_values.specs.Record.{Record}
use Rattle.medium_model.specs.Content.{Content}
use Rattle.medium_model.specs.State.{MediumState, IfTold, Counted}
use Rattle.medium_model.specs.Images.{unchanged}
use Rattle.medium_model.specs.PowerLoss.{EveryImage}
use Rattle.medium_model.proofs.Images.{every-map, counted-none, told-map}
use Rattle.record_layout.specs.RecordsOf.{records_of}
use Rattle.archive_journal.specs.Body.{EntryValue}
use Rattle.archive_journal.specs.Entries.{entries_of}
use Rattle.archive_journal.specs.Journal.{JournalView, EachHolds, HoldsWith, IsEither, IsTold, entries_told, with_entry}
use Rattle.archive_journal.specs.Journal as journal
use Rattle.shelf.specs.Archive.{StoredValue, stored, has, add, admitted, fresh, listed, list_of, ArePlaces}
use Rattle.shelf.specs.Shelf.{ShelfView, Lists, IsDurable, HasList, IsShelf, calls_for, recs_of, Leaves}
use Rattle.shelf.specs.declared.receipt.Receipt.{Receipt}
use Rattle.shelf.specs.declared.receipt.AdmitFault.TheVariants.{NoMemory, MediumFault}

-- The list after a packet.

pub admitted-fresh : (list : List StoredValue) (imei : ℕ) (rs : List Record) → admitted list imei rs ≡ list ++ map (stored imei) (fresh list imei rs)
admitted-fresh list imei [] = sym (append-nil list)
admitted-fresh list imei (r ∷ rs) = split (has list imei r) (admitted-fresh list imei rs) (admitted-fresh (list ++ stored imei r ∷ []) imei rs)
  where
    split : (b : Bool) → admitted list imei rs ≡ list ++ map (stored imei) (fresh list imei rs)
        → admitted (list ++ stored imei r ∷ []) imei rs ≡ (list ++ stored imei r ∷ []) ++ map (stored imei) (fresh (list ++ stored imei r ∷ []) imei rs)
        → admitted (if b then list else list ++ stored imei r ∷ []) imei rs ≡ list ++ map (stored imei) (if b then fresh list imei rs else r ∷ fresh (list ++ stored imei r ∷ []) imei rs)
    split true known new = known
    split false known new = new ∙ append_assoc list (stored imei r ∷ []) (map (stored imei) (fresh (list ++ stored imei r ∷ []) imei rs))

pub fresh-again : (list : List StoredValue) (imei : ℕ) (rs : List Record) → admitted list imei (fresh list imei rs) ≡ admitted list imei rs
fresh-again list imei [] = refl
fresh-again list imei (r ∷ rs) = split (has list imei r) refl (fresh-again list imei rs) (fresh-again (list ++ stored imei r ∷ []) imei rs)
  where
    split : (b : Bool) → has list imei r ≡ b → admitted list imei (fresh list imei rs) ≡ admitted list imei rs
        → admitted (list ++ stored imei r ∷ []) imei (fresh (list ++ stored imei r ∷ []) imei rs) ≡ admitted (list ++ stored imei r ∷ []) imei rs
        → admitted list imei (if has list imei r then fresh list imei rs else r ∷ fresh (list ++ stored imei r ∷ []) imei rs) ≡ admitted (if has list imei r then list else list ++ stored imei r ∷ []) imei rs
    split true is known new =
        let P : Bool → Type 0 = λ b. admitted list imei (if b then fresh list imei rs else r ∷ fresh (list ++ stored imei r ∷ []) imei rs) ≡ admitted (if b then list else list ++ stored imei r ∷ []) imei rs in
        subst P (sym is) known
    split false is known new =
        let P : Bool → Type 0 = λ b. admitted list imei (if b then fresh list imei rs else r ∷ fresh (list ++ stored imei r ∷ []) imei rs) ≡ admitted (if b then list else list ++ stored imei r ∷ []) imei rs in
        let here : add list imei r ≡ list ++ stored imei r ∷ [] = ap (λ b. if b then list else list ++ stored imei r ∷ []) is in
        subst P (sym is) (ap (λ (l : List StoredValue). admitted l imei (fresh (list ++ stored imei r ∷ []) imei rs)) here ∙ new)

pub listed-more : (list : List StoredValue) (es : List EntryValue) (e : EntryValue) → listed list (es ++ e ∷ []) ≡ admitted (listed list es) e.imei e.records
listed-more list [] e = refl
listed-more list (f ∷ es) e = listed-more (admitted list f.imei f.records) es e

recs-again : (imei : ℕ) (rs : List Record) → recs_of (map (stored imei) rs) ≡ rs
recs-again imei [] = refl
recs-again imei (r ∷ rs) = ap (λ (l : List Record). r ∷ l) (recs-again imei rs)

pub behind : (list staged : List StoredValue) (known imei : ℕ) (rs : List Record) → known ≡ length list → staged ≡ admitted list imei rs → recs_of (drop known staged) ≡ fresh list imei rs
behind list staged known imei rs at is =
    let new = fresh list imei rs in
    let all : staged ≡ list ++ map (stored imei) new = is ∙ admitted-fresh list imei rs in
    ap recs_of (ap (drop known) all ∙ drop_at list (map (stored imei) new) known (sym at)) ∙ recs-again imei new

pub no_more : (list staged : List StoredValue) (imei : ℕ) (rs : List Record) → length staged ≡ length list → staged ≡ admitted list imei rs → fresh list imei rs ≡ []
no_more list staged imei rs same is =
    let new = fresh list imei rs in
    let all = ap length (is ∙ admitted-fresh list imei rs) in
    empty new (omega (arith, length-append list (map (stored imei) new), length-map new (stored imei)))
  where
    empty : (xs : List Record) → length xs ≡ 0 → xs ≡ []
    empty [] none = refl
    empty (x ∷ xs) none = absurd (omega arith)

pub cut-is : (list staged cut : List StoredValue) (known imei : ℕ) (rs : List Record) → known ≡ length list → staged ≡ admitted list imei rs → cut ≡ take known staged → cut ≡ list
cut-is list staged cut known imei rs at is cut_at = cut_at ∙ ap (take known) (is ∙ admitted-fresh list imei rs) ∙ take_at list (map (stored imei) (fresh list imei rs)) known (sym at)

-- The images of a journal.

pub lists-images : (j : JournalView) (list : List StoredValue) → journal.IsDurable j → IfTold j.medium.content (HasList list) → EachHolds j.medium (Lists list)
lists-images j list durable has_list = images j.medium.content durable.same has_list
  where
    images : (o : Option Content) → EveryImage o (HoldsWith (IsTold (entries_told o))) → IfTold o (HasList list) → EveryImage o (HoldsWith (Lists list))
    images None every is = tt
    images (Some c) every is = λ image im.
        let held = every image im in
        record { sound = held.sound; holds = record { is = ap list_of (same_Some (entries_of image) (entries_of c.reads) held.holds.is) ∙ is.is } }

pub lists-more : (o n : Option Content) (list : List StoredValue) (e : EntryValue) → IfTold o (HasList list) → entries_told n ≡ with_entry e (entries_told o) → IfTold n (HasList (admitted list e.imei e.records))
lists-more o None list e is more = tt
lists-more None (Some d) list e is more = absurd (let never : Some (entries_of d.reads) ≡ None = more in cc)
lists-more (Some c) (Some d) list e is more = record {
  is = ap list_of (same_Some (entries_of d.reads) (entries_of c.reads ++ e ∷ []) more) ∙ listed-more [] (entries_of c.reads) e ∙ ap (λ (l : List StoredValue). admitted l e.imei e.records) is.is;
}

pub images-unchanged : (j : JournalView) (more : Option (List EntryValue)) → journal.IsDurable j → EachHolds j.medium (IsEither (entries_told j.medium.content) more)
images-unchanged j more durable = every-map j.medium.content _ _ (λ image held. record { sound = held.sound; holds = record { is = unchanged held.holds.is } }) durable.same

-- The exits.

abbrev pub view : MediumState → List StoredValue → Bool → ℕ → ShelfView
view m list down opened = record { medium = m; list = list; down = down; opened = opened }

pub durable-shelf : (j : JournalView) (list : List StoredValue) (down : Bool) (opened : ℕ) → IsShelf j list down opened → down ≡ false → IsDurable (view j.medium list down opened)
durable-shelf j list down opened is up =
    let durable = is.up up in
    record {
      up = up;
      rest = told-map j.medium.content _ _ (λ c s. s.rest) durable.settled;
      reads = is.lists up;
      told = durable.same;
      same = lists-images j list durable (is.lists up);
    }

-- nothing was kept, and the list is as it was
pub shelf-cut : (j k : JournalView) (list cut : List StoredValue) (down : Bool) (opened : ℕ) → IsShelf j list down opened
    → cut ≡ list → k ≡ record j { buffer = k.buffer } → IsShelf k cut down opened
shelf-cut j k list cut down opened is same left =
    let P : JournalView × List StoredValue → Type 0 = λ x. IsShelf x.0 x.1 down opened in
    subst P (λ i. (sym left i, sym same i)) (record {
      up = λ up. let durable = is.up up in record { up = durable.up; same = durable.same; settled = durable.settled };
      lists = is.lists;
      later = is.later;
      fell = is.fell;
    })

-- a medium fault took it down
pub shelf-fell : (j k : JournalView) (list cut : List StoredValue) (down : Bool) (opened : ℕ) → IsShelf j list down opened → j.medium.faults ≤ k.medium.faults → Rose j.medium.faults k.medium.faults
    → IsShelf k cut true opened
shelf-fell j k list cut down opened is faults rose =
    let opened_low = is.later in
    record {
      up = λ up. absurd (let never : false ≡ true = sym up in cc);
      lists = λ up. absurd (let never : false ≡ true = sym up in cc);
      later = omega arith;
      fell = λ _. omega arith;
    }

-- an entry was kept
pub shelf-kept : (j k : JournalView) (list staged : List StoredValue) (down : Bool) (opened imei : ℕ) (rs new : List Record) → IsShelf j list down opened → down ≡ false
    → staged ≡ admitted list imei rs → new ≡ fresh list imei rs → entries_told k.medium.content ≡ with_entry (record { imei = imei; records = new }) (entries_told j.medium.content)
    → journal.IsDurable k → j.medium.faults ≤ k.medium.faults → IsShelf k staged down opened
shelf-kept j k list staged down opened imei rs new is up staged_is new_is entries durable faults =
    let opened_low = is.later in
    let P : List StoredValue → Type 0 = λ l. IfTold k.medium.content (HasList l) in
    let all : admitted list imei new ≡ staged = ap (λ (l : List Record). admitted list imei l) new_is ∙ fresh-again list imei rs ∙ sym staged_is in
    record {
      up = λ _. durable;
      lists = λ _. subst P all (lists-more j.medium.content k.medium.content list (record { imei = imei; records = new }) (is.lists up) entries);
      later = omega arith;
      fell = λ fallen. absurd (let never : false ≡ true = sym up ∙ fallen in cc);
    }

-- the list is as it was
pub shelf-same : (j : JournalView) (list staged : List StoredValue) (down : Bool) (opened : ℕ) → IsShelf j list down opened → staged ≡ list → IsShelf j staged down opened
shelf-same j list staged down opened is same = let P : List StoredValue → Type 0 = λ l. IsShelf j l down opened in subst P (sym same) is

pub nothing-staged : (list staged : List StoredValue) (imei : ℕ) (rs : List Record) → length staged ≡ length list → staged ≡ admitted list imei rs → staged ≡ list
nothing-staged list staged imei rs same is =
    is ∙ admitted-fresh list imei rs ∙ ap (λ (l : List Record). list ++ map (stored imei) l) (no_more list staged imei rs same is) ∙ append-nil list

module _ (j : JournalView) (list : List StoredValue) (down : Bool) (opened imei : ℕ) (body : List ℕ) (is : IsShelf j list down opened) where
  module _ (up : down ≡ false) (k : JournalView) where
    pub leaves-none : (cut : List StoredValue) → cut ≡ list → k ≡ record j { buffer = k.buffer } → Leaves (view j.medium list down opened) imei body (Err NoMemory) (view k.medium cut down opened)
    leaves-none cut same left =
        let P : MediumState × List StoredValue → Type 0 = λ x. Leaves (view j.medium list down opened) imei body (Err NoMemory) (view x.0 x.1 down opened) in
        let medium : k.medium ≡ j.medium = ap (λ (v : JournalView). v.medium) left in
        subst P (λ i. (sym medium i, sym same i)) (record {
          admits = record { list = refl; down = refl; fits = up; counts = refl };
          opened = refl;
          durable = durable-shelf j list down opened is;
          fell = is.fell;
          images = λ _. images-unchanged j _ (is.up up);
          unwritten = λ _. refl;
          counted = counted-none j.medium;
        })

    pub leaves-nothing : (staged : List StoredValue) (receipt : Receipt) → staged ≡ admitted list imei (records_of body) → ArePlaces staged imei (records_of body) receipt.places.items
        → IsShelf j staged down opened → fresh list imei (records_of body) ≡ [] → Leaves (view j.medium list down opened) imei body (Ok receipt) (view j.medium staged down opened)
    leaves-nothing staged receipt staged_is placed after none =
        let P : List StoredValue → Type 0 = λ l. ArePlaces l imei (records_of body) receipt.places.items in
        let Q : List Record → Type 0 = λ l. Counted (calls_for l) j.medium j.medium ⊥ in
        record {
          admits = record { list = staged_is; down = refl; fits = (up, subst P staged_is placed); counts = omega arith };
          opened = refl;
          durable = durable-shelf j staged down opened after;
          fell = after.fell;
          images = λ _. images-unchanged j _ (is.up up);
          unwritten = λ _. ap (λ (l : List StoredValue). view j.medium l down opened) (staged_is ∙ admitted-fresh list imei (records_of body) ∙ ap (λ (l : List Record). list ++ map (stored imei) l) none ∙ append-nil list);
          counted = subst Q (sym none) (counted-none j.medium);
        }

    pub leaves-kept : (staged : List StoredValue) (receipt : Receipt) (new : List Record) → staged ≡ admitted list imei (records_of body) → ArePlaces staged imei (records_of body) receipt.places.items
        → IsShelf k staged down opened → new ≡ fresh list imei (records_of body) → calls_for (fresh list imei (records_of body)) ≡ 4
        → EachHolds k.medium (IsEither (entries_told j.medium.content) (with_entry (record { imei = imei; records = new }) (entries_told j.medium.content)))
        → Counted 4 j.medium k.medium ⊥ → Leaves (view j.medium list down opened) imei body (Ok receipt) (view k.medium staged down opened)
    leaves-kept staged receipt new staged_is placed after new_is four images counted =
        let P : List StoredValue → Type 0 = λ l. ArePlaces l imei (records_of body) receipt.places.items in
        let Q : ℕ → Type 0 = λ n. Counted n j.medium k.medium ⊥ in
        let R : List Record → Type 0 = λ l. EachHolds k.medium (IsEither (entries_told j.medium.content) (with_entry (record { imei = imei; records = l }) (entries_told j.medium.content))) in
        record {
          admits = record { list = staged_is; down = refl; fits = (up, subst P staged_is placed); counts = counted.later };
          opened = refl;
          durable = durable-shelf k staged down opened after;
          fell = after.fell;
          images = λ _. subst R new_is images;
          unwritten = λ (none : fresh list imei (records_of body) ≡ []). absurd (let never : 0 ≡ 4 = sym (ap calls_for none) ∙ four in cc);
          counted = subst Q (sym four) counted;
        }

    pub leaves-fault : (cut : List StoredValue) (new : List Record) (faults : ℕ) → cut ≡ list → IsShelf k cut true opened → new ≡ fresh list imei (records_of body) → calls_for (fresh list imei (records_of body)) ≡ 4 → faults ≡ k.medium.faults
        → EachHolds k.medium (IsEither (entries_told j.medium.content) (with_entry (record { imei = imei; records = new }) (entries_told j.medium.content)))
        → Counted 4 j.medium k.medium (Unit {0}) → Leaves (view j.medium list down opened) imei body (Err (MediumFault faults)) (view k.medium cut true opened)
    leaves-fault cut new faults same after new_is four count images counted =
        let Q : ℕ → Type 0 = λ n. Counted n j.medium k.medium (Unit {0}) in
        let R : List Record → Type 0 = λ l. EachHolds k.medium (IsEither (entries_told j.medium.content) (with_entry (record { imei = imei; records = l }) (entries_told j.medium.content))) in
        record {
          admits = record { list = same; down = refl; fits = up; counts = (count, counted.later, counted.cause tt) };
          opened = refl;
          durable = λ risen. absurd (let never : false ≡ true = sym risen in cc);
          fell = after.fell;
          images = λ _. subst R new_is images;
          unwritten = λ never. absurd never;
          counted = subst Q (sym four) counted;
        }

-- something is new where the list has grown
pub new-some : (list staged : List StoredValue) (imei : ℕ) (rs : List Record) → staged ≡ admitted list imei rs → (length staged ≡ length list → ⊥) → 0 < length (fresh list imei rs)
new-some list staged imei rs is grown =
    let all = ap length (is ∙ admitted-fresh list imei rs) in
    let sum = length-append list (map (stored imei) (fresh list imei rs)) in
    let size = length-map (fresh list imei rs) (stored imei) in
    elim (cases_lt 0 (length (fresh list imei rs))) as (λ _. 0 < length (fresh list imei rs)) [ inl some ↦ some | inr none ↦ absurd (grown (omega arith)) ]
