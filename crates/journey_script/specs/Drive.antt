-- Which scripts a real tracker can be driven by, as `drive` does (this project's own): those of one device, with no step that only a trial
-- can take.
use Rattle.std.specs.Prelude.{ℕ, ◌||◌, Bool, true, false, is_some, [], ◌∷◌, Option, Some, None, if◌then◌else◌}
use Rattle.trial_model.specs.Script.{Script}
use Rattle.trial_model.specs.declared.script.ScriptLine.{ScriptLine}
use Rattle.trial_model.specs.declared.script.ScriptLine.TheVariants as Line
use Rattle.trial_model.specs.declared.script.Who.TheVariants as Who
use Rattle.journey_script.specs.declared.fault.ScriptFault.{ScriptFault}
use Rattle.journey_script.specs.declared.fault.ScriptFault.TheVariants.{NotForDrive}
use Rattle.journey_script.specs.Later.{is_device_line}

-- a line that `drive` refuses, after a `device` line or before any
abbrev pub is_refused_by_drive : Bool → ScriptLine → Bool
is_refused_by_drive after_device (Line.Device imei codec slots order period distance angle speed known) = after_device
is_refused_by_drive after_device (Line.Setting imei setting) = false
is_refused_by_drive after_device (Line.Fix imei fix) = false
is_refused_by_drive after_device (Line.Round imei piece up down) = is_some up || is_some down
is_refused_by_drive after_device (Line.Drain imei piece) = false
is_refused_by_drive after_device (Line.Late connection bytes) = true
is_refused_by_drive after_device (Line.Close connection) = true
is_refused_by_drive after_device (Line.Power (Who.Device imei)) = false
is_refused_by_drive after_device (Line.Power Who.Server) = true
is_refused_by_drive after_device (Line.Fuse who calls tear) = true

-- the first of them
abbrev pub drive_fault_from : Bool → Script → Option (ℕ × ScriptFault)
drive_fault_from after_device [] = None
drive_fault_from after_device (line ∷ lines) =
    if is_refused_by_drive after_device line.1 then Some (line.0, NotForDrive) else drive_fault_from (after_device || is_device_line line.1) lines

abbrev pub drive_fault_in : Script → Option (ℕ × ScriptFault)
drive_fault_in script = drive_fault_from false script
