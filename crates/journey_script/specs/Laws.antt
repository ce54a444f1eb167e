-- What every script keeps, as a trial needs it.
use Rattle.std.specs.Prelude.{◌≡◌, ℕ, ◌==◌, ◌≤◌, ◌||◌, Bool, true, false, List, [], ◌∷◌, ◌++◌, length, slice_get, Some, None}
use Rattle.std.specs.List.{AllByRecursion, filter_map}
use Rattle.acquisition.specs.Checking.{setting_fault}
use Rattle.acquisition.specs.declared.fix.Fix.{Fix}
use Rattle.trial_model.specs.Connections.{ConnectionHistory, connections_of}
use Rattle.trial_model.specs.Script.{Device, devices_of, setting_on}
use Rattle.trial_model.specs.declared.script.ScriptLine.{ScriptLine}
use Rattle.trial_model.specs.declared.script.ScriptLine.TheVariants as Line
use Rattle.journey_script.specs.Later.{later_fault, open_count, values_fault}

-- whether a device of this IMEI is among these
abbrev pub is_device : ℕ → List Device → Bool
is_device imei [] = false
is_device imei (d ∷ ds) = (d.imei == imei) || is_device imei ds

-- no two of them have one IMEI
abbrev pub AreDistinct : List Device → Type 0
AreDistinct [] = Unit {0}
AreDistinct (d ∷ ds) = (is_device d.imei ds ≡ false) × AreDistinct ds

-- What holds of the lines of a script, and of those up to any of them.
pub record HasLaws (lines : List ScriptLine) : Type 0 where
  -- a line has no fault by those before it: values fit, settings are sound, connections are there
  pub sound : (before after : List ScriptLine) (line : ScriptLine) → lines ≡ before ++ line ∷ after → later_fault before line ≡ None
  pub distinct : AreDistinct (devices_of lines)
  pub few_devices : length (devices_of lines) ≤ 64
  -- a `round` or `drain` line has the IMEI of a device
  pub placed : (n : ℕ) (h : ConnectionHistory) → slice_get (connections_of lines) n ≡ Some h → is_device h.opening.imei (devices_of lines) ≡ true
  pub few_open : open_count lines ≤ 64
  -- each device can have its settings
  pub settings : AllByRecursion (λ d. setting_fault d.codec d.settings ≡ None) (devices_of lines)
  -- the values of a fix fit all settings of its device
  pub values : (before after : List ScriptLine) (imei : ℕ) (fix : Fix) → lines ≡ before ++ Line.Fix imei fix ∷ after → values_fault (filter_map (setting_on imei) lines) fix.values.items ≡ None
