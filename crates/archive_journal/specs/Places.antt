-- Where the entries are in a file.
use Rattle.std.specs.Prelude.{◌≡◌, ◌≢◌, ℕ, ◌+◌, ◌<◌, ◌≤◌, ◌^◌, true, false, List, [], ◌∷◌, length, get_or, take, drop}
use Rattle.medium_model.specs.Content.{Content, settled}
use Rattle.medium_model.specs.PowerLoss.{EveryImage}
use Rattle.medium_model.specs.State.{IfTold}
use Rattle.archive_journal.specs.Body.{EntryValue, entry_in}
use Rattle.archive_journal.specs.Entries.{magic, size_at, body_at, is_entry, IsArchive}
use Rattle.archive_journal.specs.Journal.{JournalView}

-- These entries stand one after the other at the front, in N bytes.
abbrev pub Stand : List EntryValue → ℕ → List ℕ → Type 0
Stand [] n bytes = n ≡ 0
Stand (e ∷ es) n bytes = (is_entry bytes ≡ true) × (e ≡ entry_in (body_at bytes)) × (m : ℕ) × (n ≡ size_at bytes + m) × Stand es m (drop (size_at bytes) bytes)

-- These entries are the first of the file, and a gate comes after them at this place.
pub record StandIn (es : List EntryValue) (gate : ℕ) (file : List ℕ) : Type 0 where
  pub begins : take 8 file ≡ magic
  pub size : ℕ
  pub place : gate ≡ 8 + size
  pub stand : Stand es size (drop 8 file)
  pub there : gate < length file

-- All that is read is durable, and the file's last gate is at this place, after N entries, and closed.
pub record IsClosed (gate bodies : ℕ) (c : Content) : Type 0 where
  pub rest : c ≡ settled c.reads
  pub entries : List EntryValue
  pub stand : StandIn entries gate c.reads
  pub closed : get_or c.reads gate 0 ≢ 0xA5
  pub count : length entries ≡ bodies

-- what is true of each journal
pub record IsJournal (v : JournalView) : Type 0 where
  pub bodies : v.bodies ≤ v.gate
  pub gate : v.gate ≤ 2 ^ 62
  pub reserved : v.reserved ≤ v.medium.ready
  pub most : v.reserved ≤ 2 ^ 62
  pub up : v.down ≡ false → IfTold v.medium.content (IsClosed v.gate v.bodies)
  pub archives : EveryImage v.medium.content IsArchive

-- All that is read is durable, and after N entries the gate at this place is open, with no entry that counts after it.
pub record IsOpen (gate bodies : ℕ) (c : Content) : Type 0 where
  pub rest : c ≡ settled c.reads
  pub entries : List EntryValue
  pub stand : StandIn entries gate c.reads
  pub opened : get_or c.reads gate 0 ≡ 0xA5
  pub last : is_entry (drop gate c.reads) ≡ false
  pub count : length entries ≡ bodies

-- All that is read is durable, and it is at most nine bytes.
pub record IsSmall (c : Content) : Type 0 where
  pub rest : c ≡ settled c.reads
  pub few : length c.reads ≤ 9
