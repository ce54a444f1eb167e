-- What a drive comes to, by its status (this project's own).
use Rattle.std.specs.Prelude.{◌≡◌, ◌≢◌, ◌⊎◌, ℕ, ◌+◌, ◌*◌, ◌^◌, List, [], ◌∷◌, ◌++◌, length, replicate, Option, None, Some, IsSome, Ok, Err, codes, decimal}
use Rattle.std.specs.Io.KnownBytes.{IsAtEnd}
use Rattle.avl_values.specs.Causes.{Rose}
use Rattle.avl_values.specs.Record.{Record}
use Rattle.acquisition.specs.Watching.{powered_up}
use Rattle.flash_ring.specs.Entries.{held_of}
use Rattle.flash_ring.specs.Held.{next_of}
use Rattle.flash_ring.specs.Refusal.{Refuses}
use Rattle.flash_ring.specs.Ring.{EachHolds, IsDurable, RingView}
use Rattle.flash_ring.specs.Slot.{IsFlash, slots_of}
use Rattle.flash_ring.specs.declared.load.ReopenFault.TheVariants as fault
use Rattle.fmb_host.specs.Host.{HostView}
use Rattle.fmb_host.specs.Stocks.{PassesNamed, Stock}
use Rattle.fmb_io.specs.Printed.{Prints, PrintsFront, PrintsWhole, SinkFailed, SinkSteady}
use Rattle.fmb_io.specs.Text.{HasNext, IsReturned, OfOpened, OpensNothing}
use Rattle.fmb_drive.specs.Log.{Event, back_in, drive_text, flash_line, given_in, lost_in, released_in}
use Rattle.fmb_drive.specs.Runs.{AreSame, Begins, Driver, Runs, Stage}
use Rattle.journey_script.specs.Drive.{drive_fault_in}
use Rattle.journey_script.specs.Faults.{fault_name}
use Rattle.journey_script.specs.Grammar.{script_of}
use Rattle.journey_script.specs.declared.fault.ScriptFault.{ScriptFault}
use Rattle.links.specs.Links.{LinkState}
use Rattle.medium_model.specs.CallsLeft.{unlimited}
use Rattle.medium_model.specs.Images.{IsSame}
use Rattle.medium_model.specs.State.{IfTold, MediumState}
use Rattle.text_streams.specs.Refused.{refused_line}
use Rattle.text_streams.specs.States.{SinkState}
use Rattle.text_streams.specs.Writes as writes
use Rattle.trial_model.specs.Decisions.{history_of, records_decided, steps_of}
use Rattle.trial_model.specs.Script.{Device, Script, devices_of, lines_of, settings_of}

-- the records that a script decides for its device
abbrev pub acquired_in : Device → Script → List Record
acquired_in d script = records_decided (history_of d (steps_of (lines_of script) [])).decisions

-- a flash of no bytes is formatted first: all its slots are closed
abbrev pub formatted : ℕ → List ℕ → List ℕ
formatted slots [] = replicate (272 * slots) 0
formatted slots (byte ∷ bytes) = byte ∷ bytes

-- The ring that was opened holds what the flash holds, all of it durable, and goes on after its greatest sequence.
pub record Opens (slots : ℕ) (given : MediumState) (ring : RingView) : Type 0 where
  pub holds : IfTold given.content (λ c. ring.slots ≡ slots_of slots (formatted slots c.reads))
  pub flash : IfTold given.content (λ c. IsFlash slots (formatted slots c.reads))
  pub next : ring.next ≡ next_of ring.slots
  pub durable : IsDurable ring

-- the device of a script as it is driven
abbrev pub driver_of : Device → Driver
driver_of d = record { imei = d.imei; order = d.order; settings = settings_of d }

-- a device over the ring that was opened, at power-up
abbrev pub start : RingView → Stage
start opening = record { ring = opening; watching = powered_up }

-- A script was done to its end, over a flash that was handed out and came back. What happened is the log. Where the flash tells its
-- content, the flash that came back holds in every image, counted with repeats, just the records that were held and those that were
-- decided, less those that were given up and those of the batches that were counted.
pub record Drove (d : Device) (script : Script) (given home : MediumState) (log : List Event) (count : ℕ) : Type 0 where
  pub opening : RingView
  pub closing : Stage
  pub opens : Opens d.slots given opening
  pub runs : Runs (driver_of d) script (start opening) log closing
  pub back : home ≡ closing.ring.medium
  pub open_slots : count ≡ length (held_of closing.ring.slots)
  pub images : EachHolds closing.ring (IsSame closing.ring.slots)
  pub records : IsSome given.content → AreSame (held_of closing.ring.slots ++ (lost_in log ++ released_in log)) (held_of opening.slots ++ acquired_in d script)

-- How far a script was done on the flash that was handed out for it: the flash wasn't opened, or a line was broken off, or the script
-- was done to its end.
pub data CameTo (d : Driver) (slots : ℕ) (script : Script) (given : List MediumState) : List Event → Type 0 where
  unopened : CameTo d slots script given []
  broken_off : (flash : MediumState) (opening now : RingView) (log : List Event) → given ≡ flash ∷ [] → Opens slots flash opening → Begins d script (start opening) log now → CameTo d slots script given log
  ended : (flash : MediumState) (opening : RingView) (closing : Stage) (log : List Event) → given ≡ flash ∷ [] → Opens slots flash opening → Runs d script (start opening) log closing → CameTo d slots script given log

-- what a script was driven over: one flash and some links, which were handed out under its name and the address, and came back
pub record Works (address flash : List ℕ) (given back : List MediumState) (links ends : List LinkState) (before after : HostView) : Type 0 where
  pub media : PassesNamed flash given back before.media after.media
  pub wires : PassesNamed address links ends before.wires after.wires

-- all that was handed out, which was under this name, came back
pub record AllBack {T : Type 0} (name : List ℕ) (before after : Stock T) : Type 0 where
  pub given : List T
  pub back : List T
  pub same_count : length back ≡ length given
  pub passes : PassesNamed name given back before after

-- the first device line of the script
abbrev pub first_of : List Device → Option Device
first_of [] = None
first_of (d ∷ ds) = Some d

abbrev pub device_in : Script → Option Device
device_in script = first_of (devices_of (lines_of script))

-- the text is a script that can be driven
pub record IsDrivable (text : List ℕ) (script : Script) : Type 0 where
  pub is_script : script_of text ≡ Ok script
  pub no_fault : drive_fault_in script ≡ None

-- the first fault of a text, as a script or as one to drive by
pub record IsFaulty (text : List ℕ) (line : ℕ) (kind : ScriptFault) : Type 0 where
  pub is : (script_of text ≡ Err (record { line = line; kind = kind })) ⊎ ((script : Script) × (script_of text ≡ Ok script) × (drive_fault_in script ≡ Some (line, kind)))

-- the text has a first fault, and its line was printed
pub record IsRefused (text : List ℕ) (before after : HostView) : Type 0 where
  pub line : ℕ
  pub kind : ScriptFault
  pub is : IsFaulty text line kind
  pub printed : Prints (refused_line line (fault_name kind)) before after

-- a script was done on the flash of this name and links of this address, and what happened was printed, and then the open slots
pub record IsDriven (address flash : List ℕ) (script : Script) (before after : HostView) : Type 0 where
  pub d : Device
  pub is : device_in script ≡ Some d
  pub given : MediumState
  pub home : MediumState
  pub log : List Event
  pub open_slots : ℕ
  pub drove : Drove d script given home log open_slots
  pub works : Works address flash (given ∷ []) (home ∷ []) (given_in log) (back_in log) before after
  pub printed : PrintsWhole (drive_text d.imei log ++ flash_line open_slots) before after

-- Done without a device: nothing was opened, and nothing printed. Done with one: it was driven.
pub data IsDone (address flash text : List ℕ) (before after : HostView) : Type 0 where
  idle : (script : Script) → IsDrivable text script → device_in script ≡ None → after.media ≡ before.media → after.wires ≡ before.wires → after.sink ≡ before.sink → IsDone address flash text before after
  driven : (script : Script) → IsDrivable text script → IsDriven address flash script before after → IsDone address flash text before after

-- ---- a script that wasn't done to its end, or not said to its end

-- The script was begun for its device. This holds of the device, of what happened, and of the flash of this name as it was handed out and
-- as it came back; there is none where the host failed to open it.
pub record OfPlayed (flash : List ℕ) (script : Script) (before after : HostView) (P : Device → List Event → List MediumState → List MediumState → Type 0) : Type 0 where
  pub d : Device
  pub is : device_in script ≡ Some d
  pub given : List MediumState
  pub home : List MediumState
  pub log : List Event
  pub came : CameTo (driver_of d) d.slots script given log
  pub media : PassesNamed flash given home before.media after.media
  pub holds : P d log given home

-- a whole text was printed, and then a line as far as the sink took it
pub record PrintsThen (text line : List ℕ) (before after : HostView) : Type 0 where
  pub mid : SinkState
  pub whole : writes.PrintsWhole text before.sink mid
  pub steady : writes.IsSteady before.sink mid
  pub last : writes.Prints line mid after.sink

-- what happened was printed in whole lines, and then this line
abbrev pub Says : List ℕ → HostView → HostView → Device → List Event → List MediumState → List MediumState → Type 0
Says line before after d log given home = PrintsThen (drive_text d.imei log) line before after

-- what happened was printed up to where the sink failed: in its lines, or in the last one
pub data IsCutOff (script : Script) (before after : HostView) (d : Device) (log : List Event) : List MediumState → List MediumState → Type 0 where
  in_log : (given home : List MediumState) → PrintsFront (drive_text d.imei log) before after → IsCutOff script before after d log given home
  at_flash : (flash back : MediumState) (count : ℕ) → Drove d script flash back log count → PrintsFront (drive_text d.imei log ++ flash_line count) before after → IsCutOff script before after d log (flash ∷ []) (back ∷ [])

-- the flash failed, which is not one that tells that no call of it will fail
pub data HasFailed : List MediumState → List MediumState → Type 0 where
  failed : (flash back : MediumState) → Rose flash.faults back.faults → (flash.left ≡ unlimited → ⊥) → HasFailed (flash ∷ []) (back ∷ [])

-- why the flash of a device is refused
pub data FlashRefusal : Type 0 where
  size : (got wanted : ℕ) → FlashRefusal
  slot : (number : ℕ) → FlashRefusal
  sequence : FlashRefusal

unfoldable pub refusal_line : FlashRefusal → List ℕ
refusal_line (size got wanted) = codes "refused flash size " ++ decimal got ++ codes " " ++ decimal wanted ++ codes "\n"
refusal_line (slot number) = codes "refused flash slot " ++ decimal number ++ codes "\n"
refusal_line sequence = codes "refused flash sequence\n"

-- the sequences of the device's ring were at their end when the script was broken off
pub record IsSpent (d : Driver) (slots : ℕ) (script : Script) (given : MediumState) (log : List Event) : Type 0 where
  pub opening : RingView
  pub now : RingView
  pub opens : Opens slots given opening
  pub begins : Begins d script (start opening) log now
  pub next : now.next ≡ 2 ^ 63

-- the refusal is the flash's own, as it came back
abbrev pub IsRefusal : Driver → ℕ → Script → MediumState → MediumState → List Event → FlashRefusal → Type 0
IsRefusal d slots script given home log (size got wanted) = IfTold home.content (λ c. Refuses slots c.reads (fault.WrongSize got wanted))
IsRefusal d slots script given home log (slot number) = IfTold home.content (λ c. Refuses slots c.reads (fault.BadSlot number))
IsRefusal d slots script given home log sequence = IsSpent d slots script given log

-- the flash is refused, and that was said
pub data SaysRefusal (script : Script) (before after : HostView) (d : Device) (log : List Event) : List MediumState → List MediumState → Type 0 where
  refuses : (flash back : MediumState) (refusal : FlashRefusal) → IsRefusal (driver_of d) d.slots script flash back log refusal → PrintsThen (drive_text d.imei log) (refusal_line refusal) before after
      → SaysRefusal script before after d log (flash ∷ []) (back ∷ [])

-- the flash failed, and that was said
abbrev pub SaysFailed : HostView → HostView → Device → List Event → List MediumState → List MediumState → Type 0
SaysFailed before after d log given home = HasFailed given home × PrintsThen (drive_text d.imei log) (codes "medium fault\n") before after

-- the text is a script that can be driven, and it was begun
abbrev pub OfDriven : (flash text : List ℕ) → HostView → HostView → (Script → Device → List Event → List MediumState → List MediumState → Type 0) → Type 0
OfDriven flash text before after P = (script : Script) × IsDrivable text script × OfPlayed flash script before after (P script)

-- A script that a host opens by a name, played over the flash of a name and links of an address: 0 it was done, 3 it has a first
-- fault, 4 the text failed, 5 the sink failed on what happened, 6 the flash failed, 7 the host failed to open the text or the flash, or
-- to dial, 8 the flash isn't one of this device, 9 memory ran out.
pub record RanDrive (address flash word : List ℕ) (status : ℕ) (before after : HostView) : Type 0 where
  pub among : (status ≡ 0) ⊎ (status ≡ 3) ⊎ (status ≡ 4) ⊎ (status ≡ 5) ⊎ (status ≡ 6) ⊎ (status ≡ 7) ⊎ (status ≡ 8) ⊎ (status ≡ 9)
  -- 0: the script was read to its end and done
  pub done : status ≡ 0 → OfOpened word before after (λ text. IsDone address flash text before after)
  pub sink_steady : status ≡ 0 → SinkSteady before after
  -- 3: it has a first fault, whose line is printed
  pub refused : status ≡ 3 → OfOpened word before after (λ text. IsRefused text before after)
  -- 4: the text failed, which the host has counted
  pub source_cause : status ≡ 4 → after.counts ≡ record before.counts { texts = before.counts.texts + 1 }
  pub source_line : status ≡ 4 → Prints (codes "source fault\n") before after
  -- 5: the sink failed on what happened
  pub cut_off : status ≡ 5 → OfOpened word before after (λ text. OfDriven flash text before after (λ script. IsCutOff script before after))
  pub sink_cause : status ≡ 5 → SinkFailed before after
  -- 6: the flash failed, which the host has counted
  pub medium_fault : status ≡ 6 → OfOpened word before after (λ text. OfDriven flash text before after (λ script. SaysFailed before after))
  pub medium_cause : status ≡ 6 → after.counts ≡ record before.counts { media = before.counts.media + 1 }
  -- 7: the host failed to open the text or the flash, or to dial, which it has counted
  pub host_fault : status ≡ 7 → (OpensNothing before after × Prints (codes "host fault\n") before after)
      ⊎ OfOpened word before after (λ text. OfDriven flash text before after (λ script. Says (codes "host fault\n") before after))
  pub host_cause : status ≡ 7 → after.counts.host ≡ before.counts.host + 1
  -- 8: the flash is refused
  pub refused_flash : status ≡ 8 → OfOpened word before after (λ text. OfDriven flash text before after (λ script. SaysRefusal script before after))
  -- 9: memory ran out before the script was begun, or after
  pub no_memory : status ≡ 9 → Prints (codes "no memory\n") before after
      ⊎ OfOpened word before after (λ text. OfDriven flash text before after (λ script. Says (codes "no memory\n") before after))
  -- what was handed out came back: the text, which was read to its end where it was played, the flash and the links
  pub returned : status ≢ 7 → IsReturned (λ read. status ≢ 3 → status ≢ 4 → status ≢ 9 → IsAtEnd read.left) before after
  pub returned_or_none : status ≡ 7 → OpensNothing before after ⊎ IsReturned (λ read. IsAtEnd read.left) before after
  pub media_back : AllBack flash before.media after.media
  pub wires_back : AllBack address before.wires after.wires
  -- what else the host counts and keeps
  pub texts_before : status ≢ 4 → after.counts.texts ≡ before.counts.texts
  pub host_before : status ≢ 7 → after.counts.host ≡ before.counts.host
  pub doors_before : after.counts.doors ≡ before.counts.doors
  pub kept_before : after.kept ≡ before.kept
  pub gates_before : after.gates ≡ before.gates
  pub benches_before : after.benches ≡ before.benches

-- Where the host tells a text with a first fault and counts no failure, that fault is printed, or memory runs out.
abbrev pub DriveRefuses : ℕ → HostView → HostView → Type 0
DriveRefuses status before after = (text : List ℕ) (line : ℕ) (kind : ScriptFault) → HasNext text before → IsFaulty text line kind → after.counts ≡ before.counts → (status ≡ 3) ⊎ (status ≡ 9)

-- Where it tells a script that can be driven, and neither its counts nor its sink's rose, that is done, or the flash is refused, or
-- memory runs out.
abbrev pub DriveDrives : ℕ → HostView → HostView → Type 0
DriveDrives status before after = (text : List ℕ) (script : Script) → HasNext text before → IsDrivable text script
    → after.counts ≡ before.counts → (SinkFailed before after → ⊥) → (status ≡ 0) ⊎ (status ≡ 8) ⊎ (status ≡ 9)

-- The flash is not said to have failed where the host tells the flash that it will hand out next, and that tells that no call of it
-- will fail.
abbrev pub DriveSpares : ℕ → HostView → Type 0
DriveSpares status before = (flash : MediumState) (later : List MediumState) → before.media.coming ≡ Some (flash ∷ later) → flash.left ≡ unlimited → status ≢ 6
