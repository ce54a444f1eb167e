-- Why a flash isn't opened.
use Rattle.std.specs.Prelude.{◌≡◌, ◌≢◌, ℕ, ◌*◌, List, length}
use Rattle.flash_ring.specs.Slot.{IsFirstUnsound}
use Rattle.flash_ring.specs.declared.load.ReopenFault.{ReopenFault}
use Rattle.flash_ring.specs.declared.load.ReopenFault.TheVariants as Fault
use Rattle.flash_ring.specs.declared.load.OpenFault.{OpenFault}
use Rattle.flash_ring.specs.declared.load.OpenFault.TheVariants as Open

-- The refusal is the flash's own: its size is another, or this is its first unsound slot. A fault of the medium says nothing
-- of the flash.
abbrev pub Refuses : ℕ → List ℕ → ReopenFault → Type 0
Refuses n flash Fault.MediumFault = Unit {0}
Refuses n flash (Fault.WrongSize got wanted) = (got ≡ length flash) × (wanted ≡ 272 * n) × (got ≢ wanted)
Refuses n flash (Fault.BadSlot slot) = (length flash ≡ 272 * n) × IsFirstUnsound n flash slot

abbrev pub as_open : ReopenFault → OpenFault
as_open Fault.MediumFault = Open.MediumFault
as_open (Fault.WrongSize got wanted) = Open.WrongSize got wanted
as_open (Fault.BadSlot slot) = Open.BadSlot slot

-- the same of `open`, whose out of memory is free
abbrev pub RefusesOpen : ℕ → List ℕ → OpenFault → Type 0
RefusesOpen n flash Open.MediumFault = Unit {0}
RefusesOpen n flash (Open.WrongSize got wanted) = (got ≡ length flash) × (wanted ≡ 272 * n) × (got ≢ wanted)
RefusesOpen n flash (Open.BadSlot slot) = (length flash ≡ 272 * n) × IsFirstUnsound n flash slot
RefusesOpen n flash Open.NoMemory = Unit {0}
