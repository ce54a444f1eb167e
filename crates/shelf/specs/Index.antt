-- The index beside the record list: a map to places, by device and a number. A record's place is under its digest, or,
-- where that has the place of another record, under the first of the numbers after it that was free.
use Rattle.std.specs.Prelude.{◌≡◌, ℕ, ◌+◌, ◌%◌, ◌^◌, ◌<◌, false, List, slice_get, Option, Some, None, IsSome}
use Rattle.std.specs.BTreeMap.{BTreeMap, get}
use Rattle.std.specs.Ordering.{nat_cmp, ordering_then}
use Rattle.std.specs.declared.cmp.Ordering.{Ordering}
use Rattle.avl_values.specs.Record.{Record}
use Rattle.record_lists.specs.EachOnce.{IsOnce}
use Rattle.shelf.specs.Archive.{StoredValue, stored, has}
use Rattle.shelf.specs.Devices.{IsCounted}
use Rattle.shelf.specs.Digest.{digest_of}
use Rattle.shelf.specs.declared.devices.Devices.{Devices}
use Rattle.shelf.specs.declared.listing.Slot.{Slot}
use Rattle.shelf.specs.declared.listing.Slot.TheVariants.{Place, Free}

-- a device and a number
abbrev pub Key : Type 0
Key = ℕ × ℕ

abbrev pub key_cmp : Key → Key → Ordering
key_cmp a b = ordering_then (nat_cmp a.0 b.0) (nat_cmp a.1 b.1)

-- the place under a key
abbrev pub place_in : BTreeMap Key ℕ → Key → Option ℕ
place_in places key = get key_cmp places key

-- the number N steps after a digest
abbrev pub number_at : ℕ → ℕ → ℕ
number_at digest step = (digest + step) % 2 ^ 64

-- A record's place is some steps after its digest, and each number before has a place, too.
pub record IsFiled (find : Key → Option ℕ) (imei digest place : ℕ) : Type 0 where
  pub step : ℕ
  pub there : find (imei, number_at digest step) ≡ Some place
  pub full : (j : ℕ) → j < step → IsSome (find (imei, number_at digest j))

abbrev pub digest_for : Record → ℕ
digest_for r = digest_of r.codec r.bytes

-- The index has the place of each record that is listed. It may have more: a place at which another record is, or none.
pub record IsIndexed (list : List StoredValue) (find : Key → Option ℕ) : Type 0 where
  pub each : (p : ℕ) (s : StoredValue) → slice_get list p ≡ Some s → IsFiled find s.imei (digest_for s.rec) p

-- The number some steps after a digest is free, and each one before has a place.
pub record IsFree (find : Key → Option ℕ) (imei digest number : ℕ) : Type 0 where
  pub step : ℕ
  pub is : number ≡ number_at digest step
  pub none : find (imei, number) ≡ None
  pub full : (j : ℕ) → j < step → IsSome (find (imei, number_at digest j))

-- a record's place; or that it isn't listed, and a number that is free for it
abbrev pub IsSlot : List StoredValue → (Key → Option ℕ) → ℕ → Record → Slot → Type 0
IsSlot list find imei r (Place place) = slice_get list place ≡ Some (stored imei r)
IsSlot list find imei r (Free number) = (has list imei r ≡ false) × IsFree find imei (digest_for r) number

-- what is true of a list with its index and its devices
pub record IsListing (list : List StoredValue) (places : BTreeMap Key ℕ) (devices : Devices) : Type 0 where
  pub once : IsOnce list
  pub indexed : IsIndexed list (place_in places)
  pub counted : IsCounted list devices
