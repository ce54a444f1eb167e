-- What an archive has after a session: counted means archived, and nothing else came.
use Rattle.std.specs.Prelude.{◌≡◌, ◌⊎◌, ℕ, ◌+◌, false, List, map, take, Some}
use Rattle.std.specs.List.{flat_map}
use Rattle.avl_values.specs.Record.{Record}
use Rattle.record_layout.specs.RecordsOf.{records_of}
use Rattle.frame_layout.specs.Readings.{packets_of, up_reading}
use Rattle.archive_journal.specs.Body.{EntryValue}
use Rattle.archive_journal.specs.Journal.{EachHolds}
use Rattle.shelf.specs.Archive.{Begins, StoredValue, list_of, stored}
use Rattle.shelf.specs.Calls.{Call, Feeds, Mark, brought}
use Rattle.shelf.specs.Histories.{In}
use Rattle.shelf.specs.Shelf.{IsDurable, Leaves, ShelfView}
use Rattle.session_core.specs.declared.served.Served.{Served}
use Rattle.session_core.specs.SessionCalls.{AreCallsOf}

-- the records of the first n data frames in the bytes taken
abbrev pub records_of_first : ℕ → List ℕ → List Record
records_of_first n taken = flat_map (λ records. records) (take n (map records_of (packets_of (up_reading false taken).items)))

-- These entries have the records before, and then only records of the session's device from the frames that were counted and the
-- one after them; all records of the counted frames are there.
pub record HasSession (before : List StoredValue) (served : Served) (taken : List ℕ) (es : List EntryValue) : Type 0 where
  pub begins : Begins before (list_of es)
  pub only : (v : StoredValue) → In (list_of es) v → In before v ⊎ ((served.imei ≡ Some v.imei) × In (records_of_first (served.frames + 1) taken) v.rec)
  pub counted : (imei : ℕ) (r : Record) → served.imei ≡ Some imei → In (records_of_first served.frames taken) r → In (list_of es) (stored imei r)

-- Of a shelf that was up, each image after a session's calls has the session.
abbrev pub CountedIsArchived : Type 0
CountedIsArchived = (served : Served) (mark : Mark) (taken : List ℕ) (calls : List Call) (s t : ShelfView) → IsDurable s → Feeds Leaves s calls t → AreCallsOf served mark taken (map (brought mark) calls)
    → EachHolds t.medium (HasSession s.list served taken)
