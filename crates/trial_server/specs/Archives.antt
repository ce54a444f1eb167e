-- The server's archive in the midst of a trial: what it has of a device was delivered, it has what was counted, and no record of a
-- device stands twice.
use Rattle.std.specs.Prelude.{◌≡◌, ℕ, ◌==◌, false, List, [], ◌++◌, if◌then◌else◌}
use Rattle.avl_values.specs.Record.{Record}
use Rattle.archive_journal.specs.Body.{EntryValue}
use Rattle.archive_journal.specs.Journal.{EachHolds}
use Rattle.record_lists.specs.EachOnce.{IsOnce}
use Rattle.shelf.specs.Archive.{HoldEachOnce, StoredValue, list_of, recs_for}
use Rattle.shelf.specs.Shelf.{IsDurable, ShelfView}
use Rattle.trial_model.specs.RecordLists.{AreIn}

-- Records of each device, by its IMEI.
abbrev pub Account : Type 0
Account = ℕ → List Record

-- an account with these records more under this device
abbrev pub with_records : ℕ → List Record → Account → Account
with_records imei rs account j = account j ++ (if imei == j then rs else [])

-- Two accounts say, for each device, which records were delivered and which were counted.
pub record IsRightList (given counted : Account) (list : List StoredValue) : Type 0 where
  pub evidence : (imei : ℕ) → AreIn (given imei) (recs_for imei list)
  pub keeps : (imei : ℕ) → AreIn (recs_for imei list) (counted imei)
  pub once : (imei : ℕ) → IsOnce (recs_for imei list)

-- Entries whose list is right, and that hold no record of a device twice.
pub record AreRightEntries (given counted : Account) (es : List EntryValue) : Type 0 where
  pub list : IsRightList given counted (list_of es)
  pub each_once : HoldEachOnce es

-- Each image that a power loss may leave has right entries; and a shelf that is up has a right list, all of it durable.
pub record IsRightShelf (given counted : Account) (v : ShelfView) : Type 0 where
  pub images : EachHolds v.medium (AreRightEntries given counted)
  pub durable : v.down ≡ false → IsDurable v
  pub list : v.down ≡ false → IsRightList given counted v.list

-- What frames of a device add to an account: each device keeps what it had, and this one has these records.
pub record Adds (imei : ℕ) (rs : List Record) (old new : Account) : Type 0 where
  pub keeps : (j : ℕ) → AreIn (new j) (old j)
  pub has : AreIn (new imei) rs
