-- What contracts see of a journal, and what a power loss may leave of it, said of its entries.
use Rattle.std.specs.Prelude.{◌≡◌, ℕ, ◌+◌, ◌≤◌, Bool, false, List, [], ◌∷◌, ◌++◌, length, take, Option, Some, None}
use Rattle.medium_model.specs.Content.{Content, settled}
use Rattle.medium_model.specs.Images as images
use Rattle.medium_model.specs.Images.{IsSame}
use Rattle.medium_model.specs.State.{MediumState, IfTold}
use Rattle.medium_model.specs.PowerLoss.{EveryImage, WasImage}
use Rattle.archive_journal.specs.Body.{EntryValue}
use Rattle.archive_journal.specs.Entries.{entries_of, magic, IsArchive}

-- What contracts see: the medium, the place of the last gate, the number of entries, the place up to which it is ready for
-- appends, how many bytes its buffer takes, and whether a medium fault took it down.
pub record JournalView : Type 0 where
  pub medium : MediumState
  pub gate : ℕ
  pub bodies : ℕ
  pub reserved : ℕ
  pub buffer : ℕ
  pub down : Bool

-- the entries that are read, where the content is told
abbrev pub entries_told : Option Content → Option (List EntryValue)
entries_told None = None
entries_told (Some c) = Some (entries_of c.reads)

-- one entry more, where they are told
abbrev pub with_entry : EntryValue → Option (List EntryValue) → Option (List EntryValue)
with_entry e None = None
with_entry e (Some es) = Some (es ++ e ∷ [])

-- an image is an archive, and its entries have P
abbrev pub HoldsWith : (List EntryValue → Type 0) → List ℕ → Type 0
HoldsWith P = images.HoldsWith IsArchive entries_of P

-- these are the entries that were told
abbrev pub IsTold : Option (List EntryValue) → List EntryValue → Type 0
IsTold told = images.IsTold (IsSame told)

-- the entries as before, or as after
abbrev pub IsEither : Option (List EntryValue) → Option (List EntryValue) → List EntryValue → Type 0
IsEither before after = images.IsTold (images.IsEither before after)

-- each image that a power loss may leave is an archive, and its entries have P
abbrev pub EachHolds : MediumState → (List EntryValue → Type 0) → Type 0
EachHolds m P = EveryImage m.content (HoldsWith P)

-- All that is read is durable, it begins with `FMBARCH1`, and it has n entries.
pub record IsSettled (n : ℕ) (c : Content) : Type 0 where
  pub rest : c ≡ settled c.reads
  pub begins : take 8 c.reads ≡ magic
  pub count : length (entries_of c.reads) ≡ n

-- The journal is up, and a power loss leaves its entries as they are.
pub record IsDurable (v : JournalView) : Type 0 where
  pub up : v.down ≡ false
  pub same : EachHolds v.medium (IsTold (entries_told v.medium.content))
  pub settled : IfTold v.medium.content (IsSettled v.bodies)

-- The journal is ready for an append of a body of N bytes: the medium, and the buffer in which the body and the gate after
-- it are laid out.
pub record HasRoom (v : JournalView) (bytes : ℕ) : Type 0 where
  pub medium : v.gate + bytes + 2 ≤ v.reserved
  pub buffer : bytes + 1 ≤ v.buffer

-- where the journal ends after an entry more
abbrev pub after_body : ℕ → JournalView → JournalView
after_body bytes v = record v { gate = v.gate + 1 + bytes; bodies = v.bodies + 1 }

-- An image has the entries of one that a power loss might have left before, and is an archive where that was one.
pub record KeepsEntries (before : Option Content) (image : List ℕ) : Type 0 where
  pub old : List ℕ
  pub was : WasImage before old
  pub same : entries_of image ≡ entries_of old
  pub archive : IsArchive old → IsArchive image
