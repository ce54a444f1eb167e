-- The devices beside the record list.
use Rattle.std.specs.Prelude.{◌≡◌, ℕ, ◌+◌, ◌==◌, if◌then◌else◌, List, [], ◌∷◌, Option, Some, None}
use Rattle.std.specs.BTreeMap.{get}
use Rattle.std.specs.Ordering.{nat_cmp}
use Rattle.shelf.specs.Archive.{StoredValue, devices_of}
use Rattle.shelf.specs.declared.devices.Devices.{Devices}

-- the place of a device's first record, the list's first place being the given one
abbrev pub first_from : ℕ → List StoredValue → ℕ → Option ℕ
first_from k [] imei = None
first_from k (s ∷ list) imei = if s.imei == imei then Some k else first_from (k + 1) list imei

-- first places and count are those of the list
pub record IsCounted (list : List StoredValue) (devices : Devices) : Type 0 where
  pub first : (imei : ℕ) → get nat_cmp devices.firsts imei ≡ first_from 0 list imei
  pub count : devices.count ≡ devices_of list
