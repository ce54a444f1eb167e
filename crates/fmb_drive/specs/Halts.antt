-- Why a drive ends before its script does, and what stands then.
use Rattle.std.specs.Prelude.{◌≡◌, ◌≤◌, ◌^◌, ℕ, ◌+◌, List, [], codes, length}
use Rattle.avl_values.specs.Causes.{Rose}
use Rattle.flash_ring.specs.Refusal.{Refuses}
use Rattle.flash_ring.specs.Ring.{RingView}
use Rattle.flash_ring.specs.declared.load.ReopenFault.TheVariants as fault
use Rattle.fmb_drive.specs.Drive.{refusal_line, sequence, size as wrong_size, slot as bad_slot}
use Rattle.fmb_drive.specs.Log.{Event, drive_text}
use Rattle.fmb_drive.specs.declared.stop.Stop.{Stop}
use Rattle.fmb_drive.specs.declared.stop.Stop.TheVariants as stop
use Rattle.fmb_host.specs.Host.{HostView}
use Rattle.fmb_host.specs.Stocks.{PassesNamed}
use Rattle.fmb_io.specs.Printed.{PrintsFront, PrintsWhole, SinkFailed, SinkSteady}
use Rattle.links.specs.Links.{LinkState}
use Rattle.medium_model.specs.CallsLeft.{unlimited}
use Rattle.medium_model.specs.State.{IfTold, MediumState}

-- A drive ended early, when this had happened and the ring was this one. What had happened was printed, to its end unless the sink
-- failed; the links of this address that were handed out came back; and the stop has its cause. It is a flash of N slots.
pub record Halts (address : List ℕ) (P : List Event → RingView → Type 0) (s : Stop) (imei slots : ℕ) (before after : HostView) (old new : MediumState) : Type 0 where
  pub log : List Event
  pub now : RingView
  pub holds : P log now
  pub spent : s ≡ stop.Sequence → now.next ≡ 2 ^ 63
  pub front : PrintsFront (drive_text imei log) before after
  pub whole : (s ≡ stop.SinkFault → ⊥) → PrintsWhole (drive_text imei log) before after × SinkSteady before after
  pub links : List LinkState
  pub ends : List LinkState
  pub same_count : length ends ≡ length links
  pub wires : PassesNamed address links ends before.wires after.wires
  pub sink_fault : s ≡ stop.SinkFault → SinkFailed before after
  pub medium_fault : s ≡ stop.MediumFault → Rose old.faults new.faults × (old.left ≡ unlimited → ⊥)
  pub host_fault : s ≡ stop.HostFault → after.counts ≡ record before.counts { host = before.counts.host + 1 }
  pub no_host_fault : (s ≡ stop.HostFault → ⊥) → after.counts ≡ before.counts
  pub size : (got wanted : ℕ) → s ≡ stop.Size got wanted → IfTold new.content (λ c. Refuses slots c.reads (fault.WrongSize got wanted))
  pub slot : (number : ℕ) → s ≡ stop.Slot number → IfTold new.content (λ c. Refuses slots c.reads (fault.BadSlot number))
  pub later : old.faults ≤ new.faults
  pub others : after ≡ record before { counts = after.counts; sink = after.sink; wires = after.wires }

-- the line that is printed then, and the status
abbrev pub stop_line : Stop → List ℕ
stop_line stop.SinkFault = []
stop_line stop.MediumFault = codes "medium fault\n"
stop_line stop.HostFault = codes "host fault\n"
stop_line (stop.Size got wanted) = refusal_line (wrong_size got wanted)
stop_line (stop.Slot number) = refusal_line (bad_slot number)
stop_line stop.Sequence = refusal_line sequence
stop_line stop.NoMemory = codes "no memory\n"

abbrev pub stop_status : Stop → ℕ
stop_status stop.SinkFault = 5
stop_status stop.MediumFault = 6
stop_status stop.HostFault = 7
stop_status (stop.Size got wanted) = 8
stop_status (stop.Slot number) = 8
stop_status stop.Sequence = 8
stop_status stop.NoMemory = 9
