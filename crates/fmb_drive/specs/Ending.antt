-- How a drive ends: the last line that is printed, and the status.
use Rattle.std.specs.Prelude.{◌≡◌, ◌≢◌, ◌⊎◌, ℕ, ◌+◌, List, [], ◌∷◌, codes}
use Rattle.fmb_drive.specs.Drive.{AllBack, CameTo, IsCutOff, IsDone, IsDriven, IsRefused, IsSpent, OfDriven, OfPlayed, Says, SaysFailed, SaysRefusal}
use Rattle.fmb_drive.specs.Halts.{Halts, stop_line, stop_status}
use Rattle.fmb_drive.specs.Log.{flash_line}
use Rattle.fmb_drive.specs.Runs.{Driver}
use Rattle.fmb_drive.specs.declared.stop.Stop.{Stop}
use Rattle.fmb_drive.specs.declared.stop.Stop.TheVariants as stop
use Rattle.fmb_host.specs.Host.{HostView}
use Rattle.fmb_io.specs.Printed.{Prints, PrintsFront, PrintsWhole, SinkFailed, SinkSteady}
use Rattle.medium_model.specs.State.{MediumState}
use Rattle.trial_model.specs.Script.{Script}

-- a script was done, with this number of open slots at its end
pub record EndsWell (count status : ℕ) (before after : HostView) : Type 0 where
  pub among : (status ≡ 0) ⊎ (status ≡ 5) ⊎ (status ≡ 9)
  pub printed : status ≡ 0 → PrintsWhole (flash_line count) before after
  pub steady : status ≡ 0 → SinkSteady before after
  pub cut_off : status ≡ 5 → PrintsFront (flash_line count) before after
  pub sink_cause : status ≡ 5 → SinkFailed before after
  pub no_memory : status ≡ 9 → Prints (codes "no memory\n") before after
  pub others : after ≡ record before { sink = after.sink }

-- a drive ended before its script; where there is no memory for the line of a refusal, that is said
pub record EndsEarly (s : Stop) (status : ℕ) (before after : HostView) : Type 0 where
  pub among : (status ≡ stop_status s) ⊎ (status ≡ 9)
  pub sink_fault : s ≡ stop.SinkFault → (status ≡ 5) × (after ≡ before)
  pub medium_fault : s ≡ stop.MediumFault → status ≡ 6
  pub host_fault : s ≡ stop.HostFault → status ≡ 7
  pub line : status ≡ stop_status s → Prints (stop_line s) before after
  pub no_memory : status ≡ 9 → Prints (codes "no memory\n") before after
  pub others : after ≡ record before { sink = after.sink }

-- A drive ended before its script, on this flash and links of this address.
pub record StopsOn (address : List ℕ) (s : Stop) (d : Driver) (slots : ℕ) (script : Script) (given home : MediumState) (before after : HostView) : Type 0 where
  pub halts : Halts address (λ log now. CameTo d slots script (given ∷ []) log) s d.imei slots before after given home
  pub spent : s ≡ stop.Sequence → IsSpent d slots script given halts.log

-- A script was driven on the flash of this name and links of this address: 0 it was done, 5 the sink failed on what happened, 6 the
-- flash failed, 7 the host failed to open the flash or to dial, 8 the flash isn't one of this device, 9 memory ran out.
pub record Drives (address flash : List ℕ) (script : Script) (status : ℕ) (before after : HostView) : Type 0 where
  pub among : (status ≡ 0) ⊎ (status ≡ 5) ⊎ (status ≡ 6) ⊎ (status ≡ 7) ⊎ (status ≡ 8) ⊎ (status ≡ 9)
  pub done : status ≡ 0 → IsDriven address flash script before after
  pub sink_steady : status ≡ 0 → SinkSteady before after
  pub cut_off : status ≡ 5 → OfPlayed flash script before after (IsCutOff script before after)
  pub sink_cause : status ≡ 5 → SinkFailed before after
  pub medium_fault : status ≡ 6 → OfPlayed flash script before after (SaysFailed before after)
  pub medium_cause : status ≡ 6 → after.counts ≡ record before.counts { media = before.counts.media + 1 }
  pub host_fault : status ≡ 7 → OfPlayed flash script before after (Says (codes "host fault\n") before after)
  pub host_cause : status ≡ 7 → after.counts.host ≡ before.counts.host + 1
  pub refused_flash : status ≡ 8 → OfPlayed flash script before after (SaysRefusal script before after)
  pub no_memory : status ≡ 9 → OfPlayed flash script before after (Says (codes "no memory\n") before after)
  pub media_back : AllBack flash before.media after.media
  pub wires_back : AllBack address before.wires after.wires
  pub texts_before : after.counts.texts ≡ before.counts.texts
  pub host_before : status ≢ 7 → after.counts.host ≡ before.counts.host
  pub doors_before : after.counts.doors ≡ before.counts.doors
  pub others : after ≡ record before { counts = after.counts; sink = after.sink; media = after.media; wires = after.wires }

-- A text was judged as a script to drive by, and driven: as above, and 3 it has a first fault.
pub record DrivesText (address flash text : List ℕ) (status : ℕ) (before after : HostView) : Type 0 where
  pub among : (status ≡ 0) ⊎ (status ≡ 3) ⊎ (status ≡ 5) ⊎ (status ≡ 6) ⊎ (status ≡ 7) ⊎ (status ≡ 8) ⊎ (status ≡ 9)
  pub done : status ≡ 0 → IsDone address flash text before after
  pub sink_steady : status ≡ 0 → SinkSteady before after
  pub refused : status ≡ 3 → IsRefused text before after
  pub cut_off : status ≡ 5 → OfDriven flash text before after (λ script. IsCutOff script before after)
  pub sink_cause : status ≡ 5 → SinkFailed before after
  pub medium_fault : status ≡ 6 → OfDriven flash text before after (λ script. SaysFailed before after)
  pub medium_cause : status ≡ 6 → after.counts ≡ record before.counts { media = before.counts.media + 1 }
  pub host_fault : status ≡ 7 → OfDriven flash text before after (λ script. Says (codes "host fault\n") before after)
  pub host_cause : status ≡ 7 → after.counts.host ≡ before.counts.host + 1
  pub refused_flash : status ≡ 8 → OfDriven flash text before after (λ script. SaysRefusal script before after)
  pub no_memory : status ≡ 9 → Prints (codes "no memory\n") before after ⊎ OfDriven flash text before after (λ script. Says (codes "no memory\n") before after)
  pub media_back : AllBack flash before.media after.media
  pub wires_back : AllBack address before.wires after.wires
  pub texts_before : after.counts.texts ≡ before.counts.texts
  pub host_before : status ≢ 7 → after.counts.host ≡ before.counts.host
  pub doors_before : after.counts.doors ≡ before.counts.doors
  pub others : after ≡ record before { counts = after.counts; sink = after.sink; media = after.media; wires = after.wires }
