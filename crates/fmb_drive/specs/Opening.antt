-- What opening a device's flash does.
use Rattle.std.specs.Prelude.{◌≡◌, ℕ, ◌≤◌, Option, Some, None}
use Rattle.avl_values.specs.Causes.{Rose}
use Rattle.flash_ring.specs.Refusal.{Refuses}
use Rattle.flash_ring.specs.declared.load.OpenFault.{OpenFault}
use Rattle.flash_ring.specs.declared.load.OpenFault.TheVariants as open_
use Rattle.flash_ring.specs.declared.load.ReopenFault.TheVariants as again
use Rattle.fmb_drive.specs.Drive.{formatted}
use Rattle.fmb_drive.specs.declared.stop.Stop.{Stop}
use Rattle.fmb_drive.specs.declared.stop.Stop.TheVariants as stop
use Rattle.medium_model.specs.CallsLeft.{unlimited}
use Rattle.medium_model.specs.Content.{Content}
use Rattle.medium_model.specs.State.{IfTold, MediumState}

-- a flash of no bytes was formatted, and another is as it was
abbrev pub Formats : ℕ → Option Content → Option Content → Type 0
Formats slots None new = Unit {0}
Formats slots (Some old) new = (c : Content) × (new ≡ Some c) × (c.reads ≡ formatted slots old.reads)

abbrev pub stop_of : OpenFault → Stop
stop_of open_.MediumFault = stop.MediumFault
stop_of (open_.WrongSize got wanted) = stop.Size got wanted
stop_of (open_.BadSlot slot) = stop.Slot slot
stop_of open_.NoMemory = stop.NoMemory

-- why a flash of N slots isn't opened, as it was and is
pub record RefusesFlash (s : Stop) (slots : ℕ) (old new : MediumState) : Type 0 where
  pub medium_fault : s ≡ stop.MediumFault → Rose old.faults new.faults × (old.left ≡ unlimited → ⊥)
  pub size : (got wanted : ℕ) → s ≡ stop.Size got wanted → IfTold new.content (λ c. Refuses slots c.reads (again.WrongSize got wanted))
  pub slot : (number : ℕ) → s ≡ stop.Slot number → IfTold new.content (λ c. Refuses slots c.reads (again.BadSlot number))
  pub no_sink_fault : s ≡ stop.SinkFault → ⊥
  pub no_host_fault : s ≡ stop.HostFault → ⊥
  pub no_sequence : s ≡ stop.Sequence → ⊥
  pub later : old.faults ≤ new.faults
