-- What the benches hold that are handed back, beside the outcome: each flash its device's records, and the archive each device's records
-- once, as its entries are.
use Rattle.std.specs.Prelude.{◌≡◌, List, [], ◌∷◌, map, ℕ}
use Rattle.std.specs.List.{All, Contains}
use Rattle.archive_journal.specs.Entries.{entries_of}
use Rattle.flash_ring.specs.Entries.{held_of}
use Rattle.flash_ring.specs.Slot.{slots_of}
use Rattle.medium_model.specs.State.{IfTold, MediumState}
use Rattle.shelf.specs.Archive.{archived}
use Rattle.trial_model.specs.declared.outcome.DeviceOutcome.{DeviceOutcome}
use Rattle.trial_model.specs.Kept.{EachDevice}
use Rattle.trial_model.specs.RecordLists.{first_places}
use Rattle.trial_model.specs.Results.{Results}
use Rattle.trial_model.specs.Script.{Device, Script, devices_of, lines_of}
use Rattle.trial_device.specs.Sides.{Side}
use Rattle.trial_play.specs.Trials.{TrialState}

-- The benches as they are handed back, the devices' in the script's order.
pub record BenchStates : Type 0 where
  pub server : MediumState
  pub devices : List MediumState

abbrev pub benches_of : TrialState → BenchStates
benches_of t = record { server = t.shelf.medium; devices = map (λ (d : Side). d.ring.medium) t.sides }

-- a device's flash, beside its outcome
pub record HasFlash (slots : ℕ) (flash : MediumState) (d : DeviceOutcome) : Type 0 where
  pub is : IfTold flash.content (λ c. d.flash ≡ first_places (held_of (slots_of slots c.reads)))

-- a flash for each device
abbrev pub AreFlashes : List Device → List MediumState → List DeviceOutcome → Type 0
AreFlashes [] [] [] = Unit {0}
AreFlashes [] [] (d ∷ ds) = ⊥
AreFlashes [] (m ∷ ms) ds = ⊥
AreFlashes (device ∷ devices) [] ds = ⊥
AreFlashes (device ∷ devices) (m ∷ ms) [] = ⊥
AreFlashes (device ∷ devices) (m ∷ ms) (d ∷ ds) = HasFlash device.slots m d × AreFlashes devices ms ds

-- The archive's entries hold the outcome's records of each device, with none twice, and no other device's.
pub record KeptOnMedia (script : Script) (outcome : Results) (benches : BenchStates) : Type 0 where
  pub flashes : AreFlashes (devices_of (lines_of script)) benches.devices outcome.devices
  pub archive : IfTold benches.server.content (λ c. EachDevice (λ device d. d.archived ≡ archived device.imei (entries_of c.reads)) (lines_of script) outcome)
  pub no_other : IfTold benches.server.content (λ c. All (λ e. Contains (map (λ (d : Device). d.imei) (devices_of (lines_of script))) e.imei) (entries_of c.reads))
