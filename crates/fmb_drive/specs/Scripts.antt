-- What a script says of the device that is driven by it.
use Rattle.std.specs.Prelude.{◌≡◌, ℕ, ◌≤◌, ◌<◌, [], Option, None, Some, length, slice_get, take}
use Rattle.std.specs.List.{filter_map}
use Rattle.acquisition.specs.Elements.{ValuesFit}
use Rattle.acquisition.specs.Settings.{AcquisitionSettings}
use Rattle.acquisition.specs.declared.fix.Fix.{Fix}
use Rattle.avl_values.specs.declared.order.Order.{Order}
use Rattle.fmb_drive.specs.Drive.{device_in}
use Rattle.fmb_drive.specs.Runs.{Driver}
use Rattle.fmb_drive.specs.declared.device.Driven.{Driven}
use Rattle.trial_model.specs.Script.{Device, Script, device_on, lines_of, settings_of}
use Rattle.trial_model.specs.declared.script.ScriptLine.{ScriptLine}
use Rattle.trial_model.specs.declared.script.ScriptLine.TheVariants as Line

-- the device as it is driven
abbrev pub driver_by : Driven → Driver
driver_by v = record { imei = v.imei; order = v.order; settings = v.settings }

-- each fix of this device has values for these settings
abbrev pub FixesFit : ℕ → AcquisitionSettings → Script → Type 0
FixesFit imei settings script = (i number : ℕ) (fix : Fix) → slice_get script i ≡ Some (number, Line.Fix imei fix) → ValuesFit settings.ios fix.values.items

-- the device of a script, by these of its words
pub record IsDevice (number count : ℕ) (sends : Order) (acquires : AcquisitionSettings) (script : Script) : Type 0 where
  pub d : Device
  pub is : device_in script ≡ Some d
  pub imei : d.imei ≡ number
  pub slots : d.slots ≡ count
  pub order : d.order ≡ sends
  pub settings : settings_of d ≡ acquires
  pub some : 1 ≤ count
  pub few : count ≤ 4096
  pub fit : FixesFit number acquires script

-- what was found of a script's device
abbrev pub TellsDevice : Option Driven → Script → Type 0
TellsDevice None script = device_in script ≡ None
TellsDevice (Some v) script = IsDevice v.imei v.slots v.order v.settings script

-- a line is the first `device` line of a script
pub record IsFirstDevice (script : Script) (i : ℕ) : Type 0 where
  pub low : i < length script
  pub before : filter_map (device_on (lines_of script)) (lines_of (take i script)) ≡ []
  pub number : ℕ
  pub line : ScriptLine
  pub at : slice_get script i ≡ Some (number, line)
  pub d : Device
  pub is : device_on (lines_of script) line ≡ Some d
