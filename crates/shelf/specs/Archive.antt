-- The record list of an archive: each record of a device once, at its first place (this project's own).
use Rattle.std.specs.Prelude.{◌≡◌, ℕ, ◌+◌, ◌==◌, ◌&&◌, ◌||◌, if◌then◌else◌, Bool, false, List, [], ◌∷◌, ◌++◌, map, slice_get, Some}
use Rattle.avl_values.specs.Record.{Record}
use Rattle.record_lists.specs.EachOnce.{is_listed, add_once}
use Rattle.record_lists.specs.SameRecord.{is_same}
use Rattle.archive_journal.specs.Body.{EntryValue}

-- a record of a device
pub record StoredValue : Type 0 where
  pub imei : ℕ
  pub rec : Record

abbrev pub stored : ℕ → Record → StoredValue
stored imei r = record { imei = imei; rec = r }

-- the same record of the same device
abbrev pub is_same_stored : StoredValue → StoredValue → Bool
is_same_stored a b = (a.imei == b.imei) && is_same a.rec b.rec

-- this device has this record
abbrev pub has : List StoredValue → ℕ → Record → Bool
has list imei r = is_listed is_same_stored list (stored imei r)

-- a record added at the end, unless its device has it
abbrev pub add : List StoredValue → ℕ → Record → List StoredValue
add list imei r = add_once is_same_stored list (stored imei r)

-- the records of a packet added in turn
abbrev pub admitted : List StoredValue → ℕ → List Record → List StoredValue
admitted list imei [] = list
admitted list imei (r ∷ rs) = admitted (add list imei r) imei rs

-- those that the device doesn't have yet, each once
abbrev pub fresh : List StoredValue → ℕ → List Record → List Record
fresh list imei [] = []
fresh list imei (r ∷ rs) = if has list imei r then fresh list imei rs else r ∷ fresh (list ++ stored imei r ∷ []) imei rs

-- the records of entries added in turn
abbrev pub listed : List StoredValue → List EntryValue → List StoredValue
listed list [] = list
listed list (e ∷ es) = listed (admitted list e.imei e.records) es

-- the record list of an archive's entries
abbrev pub list_of : List EntryValue → List StoredValue
list_of es = listed [] es

-- all that entries hold, in order and with repeats
abbrev pub all_of : List EntryValue → List StoredValue
all_of [] = []
all_of (e ∷ es) = map (stored e.imei) e.records ++ all_of es

-- all records of a device in entries, in order and with repeats
abbrev pub archived : ℕ → List EntryValue → List Record
archived imei [] = []
archived imei (e ∷ es) = if e.imei == imei then e.records ++ archived imei es else archived imei es

-- a device's records in a list
abbrev pub recs_for : ℕ → List StoredValue → List Record
recs_for imei [] = []
recs_for imei (s ∷ list) = if s.imei == imei then s.rec ∷ recs_for imei list else recs_for imei list

-- Entries that hold no record of a device twice: all that they hold is their record list. Those that `admit` appends keep to
-- it, from an empty archive on. A file that was made elsewhere may be none of these, and is opened all the same.
pub record HoldEachOnce (es : List EntryValue) : Type 0 where
  pub is : all_of es ≡ list_of es

-- each of these records of a device is at its place
abbrev pub ArePlaces : List StoredValue → ℕ → List Record → List ℕ → Type 0
ArePlaces list imei [] [] = Unit {0}
ArePlaces list imei [] (p ∷ ps) = ⊥
ArePlaces list imei (r ∷ rs) [] = ⊥
ArePlaces list imei (r ∷ rs) (p ∷ ps) = (slice_get list p ≡ Some (stored imei r)) × ArePlaces list imei rs ps

-- a list with some more after it
pub record Begins (old new : List StoredValue) : Type 0 where
  pub more : List StoredValue
  pub is : new ≡ old ++ more

-- the places of a device's records, rising, the list's first place being the given one
abbrev pub places_from : ℕ → List StoredValue → ℕ → List ℕ
places_from k [] imei = []
places_from k (s ∷ list) imei = if s.imei == imei then k ∷ places_from (k + 1) list imei else places_from (k + 1) list imei

abbrev pub places_of : List StoredValue → ℕ → List ℕ
places_of list imei = places_from 0 list imei

-- a record of this device is listed
abbrev pub has_device : List StoredValue → ℕ → Bool
has_device [] imei = false
has_device (s ∷ list) imei = (s.imei == imei) || has_device list imei

-- how many devices come for the first time after these records
abbrev pub devices_after : List StoredValue → List StoredValue → ℕ
devices_after seen [] = 0
devices_after seen (s ∷ list) = (if has_device seen s.imei then 0 else 1) + devices_after (seen ++ s ∷ []) list

-- how many devices have records
abbrev pub devices_of : List StoredValue → ℕ
devices_of list = devices_after [] list
