-- What contracts see of a shelf, and what a power loss may leave of it, said of its record list.
use Rattle.std.specs.Prelude.{◌≡◌, ℕ, ◌≤◌, ◌^◌, map, Bool, true, false, List, [], ◌∷◌, length, Some, Result, Ok, Err}
use Rattle.avl_values.specs.Causes.{IsAbove}
use Rattle.avl_values.specs.Record.{Record}
use Rattle.medium_model.specs.CallsLeft.{unlimited}
use Rattle.medium_model.specs.Content.{Content, settled}
use Rattle.medium_model.specs.PowerLoss.{WasImage}
use Rattle.medium_model.specs.State.{MediumState, IfTold, Counted}
use Rattle.record_layout.specs.RecordsOf.{records_of}
use Rattle.archive_journal.specs.Body.{EntryValue, joined}
use Rattle.archive_journal.specs.Entry.{IsEntry}
use Rattle.avl_values.specs.declared.codec.Codec.{Codec}
use Rattle.archive_journal.specs.Entries.{entries_of}
use Rattle.archive_journal.specs.Journal.{JournalView, EachHolds, IsTold, entries_told, with_entry}
use Rattle.archive_journal.specs.Journal as journal
use Rattle.medium_model.specs.Images.{IsEither}
use Rattle.shelf.specs.Archive.{StoredValue, fresh, list_of}
use Rattle.shelf.specs.Admits.{Shelved, Answer, answer_of, Admits}
use Rattle.shelf.specs.declared.receipt.Receipt.{Receipt}
use Rattle.shelf.specs.declared.receipt.AdmitFault.{AdmitFault}
use Rattle.shelf.specs.declared.receipt.AdmitFault.TheVariants.{Down, NoMemory, MediumFault}

-- What contracts see: the medium, the record list, whether a medium fault took the shelf down, and the medium's count of faults
-- when it was opened.
pub record ShelfView : Type 0 where
  pub medium : MediumState
  pub list : List StoredValue
  pub down : Bool
  pub opened : ℕ

-- as plain data
abbrev pub front : ShelfView → Shelved
front v = record { list = v.list; down = v.down; faults = v.medium.faults }

-- these entries have this record list
pub record Lists (list : List StoredValue) (es : List EntryValue) : Type 0 where
  pub is : list_of es ≡ list

-- What is read has this record list.
pub record HasList (list : List StoredValue) (c : Content) : Type 0 where
  pub is : list_of (entries_of c.reads) ≡ list

-- The shelf is up. All that is read is durable and has its record list, and a power loss leaves an archive with these entries,
-- and so with this list.
pub record IsDurable (v : ShelfView) : Type 0 where
  pub up : v.down ≡ false
  pub rest : IfTold v.medium.content (λ c. c ≡ settled c.reads)
  pub reads : IfTold v.medium.content (HasList v.list)
  pub told : EachHolds v.medium (IsTold (entries_told v.medium.content))
  pub same : EachHolds v.medium (Lists v.list)

-- these entries have the list before, or the one after
pub record ListsEither (before after : List StoredValue) (es : List EntryValue) : Type 0 where
  pub is : IsEither before after (list_of es)

-- The power came back: the shelf is up over one of the images that the power loss might have left.
pub record IsRestarted (old new : ShelfView) : Type 0 where
  pub image : List ℕ
  pub was : WasImage old.medium.content image
  pub list : new.list ≡ list_of (entries_of image)
  pub entries : entries_told new.medium.content ≡ Some (entries_of image)
  pub up : new.down ≡ false
  pub left : new.medium.left ≡ unlimited

-- what is true of each shelf
pub record IsShelf (j : JournalView) (list : List StoredValue) (down : Bool) (opened : ℕ) : Type 0 where
  pub up : down ≡ false → journal.IsDurable j
  pub lists : down ≡ false → IfTold j.medium.content (HasList list)
  pub later : opened ≤ j.medium.faults
  pub fell : down ≡ true → IsAbove j.medium.faults opened

-- the records of a list
abbrev pub recs_of : List StoredValue → List Record
recs_of list = map (λ s. s.rec) list

-- records of one codec that can make an entry
pub record MakesEntry (records : List Record) : Type 0 where
  pub codec : Codec
  pub is : IsEntry codec records
  pub few : length (joined records) ≤ 2 ^ 31

-- the entry that a call appends
abbrev pub new_entry : List StoredValue → ℕ → List Record → EntryValue
new_entry list imei records = record { imei = imei; records = fresh list imei records }

-- four where there is something to append
abbrev pub calls_for : List Record → ℕ
calls_for [] = 0
calls_for (r ∷ rs) = 4

-- how many calls of the medium a call of `admit` makes: none where it has nothing to append, or is refused before. So it
-- never answers MediumFault where nothing is new.
abbrev pub admit_calls : List Record → Answer → ℕ
admit_calls new (Ok places) = calls_for new
admit_calls new (Err (Down faults)) = 0
admit_calls new (Err NoMemory) = 0
admit_calls new (Err (MediumFault faults)) = calls_for new

abbrev pub IsMediumFault : Answer → Type 0
IsMediumFault (Ok places) = ⊥
IsMediumFault (Err (Down faults)) = ⊥
IsMediumFault (Err NoMemory) = ⊥
IsMediumFault (Err (MediumFault faults)) = Unit {0}

-- A call that writes nothing: the shelf is down, there is no memory, or nothing is new.
abbrev pub WritesNothing : List Record → Answer → Type 0
WritesNothing new (Ok places) = new ≡ []
WritesNothing new (Err (Down faults)) = Unit {0}
WritesNothing new (Err NoMemory) = Unit {0}
WritesNothing new (Err (MediumFault faults)) = ⊥

-- What a call of a shelf's `admit` leaves. One that writes nothing changes nothing. At every exit, and so at each moment of the call, a power loss leaves the entries
-- before, or those with one entry of the new records after them.
pub record Leaves (old : ShelfView) (imei : ℕ) (body : List ℕ) (result : Result Receipt AdmitFault) (new : ShelfView) : Type 0 where
  pub admits : Admits (front old) imei (records_of body) (answer_of result) (front new)
  pub opened : new.opened ≡ old.opened
  pub durable : new.down ≡ false → IsDurable new
  pub fell : new.down ≡ true → IsAbove new.medium.faults new.opened
  pub images : old.down ≡ false → EachHolds new.medium (journal.IsEither (entries_told old.medium.content) (with_entry (new_entry old.list imei (records_of body)) (entries_told old.medium.content)))
  pub unwritten : WritesNothing (fresh old.list imei (records_of body)) (answer_of result) → new ≡ old
  pub counted : Counted (admit_calls (fresh old.list imei (records_of body)) (answer_of result)) old.medium new.medium (IsMediumFault (answer_of result))
