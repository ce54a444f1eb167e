-- The faults that a line may have by the lines before it, judged after those of its fields, by number (this project's own).
use Rattle.std.specs.Prelude.{ℕ, ◌==◌, nat_le, nat_lt, ◌||◌, not, Bool, true, false, is_some, List, [], ◌∷◌, ◌++◌, count_by, length, option_map, Option, Some, None, if◌then◌else◌}
use Rattle.std.specs.List.{fold, list_all, zip}
use Rattle.acquisition.specs.Checking.{setting_fault}
use Rattle.acquisition.specs.Elements.{width_of}
use Rattle.avl_values.specs.Width.{limit}
use Rattle.avl_values.specs.declared.codec.Codec.{Codec}
use Rattle.io_operands.specs.declared.setting.IoSetting.{IoSetting}
use Rattle.trial_model.specs.Connections.{connections_of}
use Rattle.trial_model.specs.Script.{opening_of}
use Rattle.trial_model.specs.declared.script.ScriptLine.{ScriptLine}
use Rattle.trial_model.specs.declared.script.ScriptLine.TheVariants as Line
use Rattle.trial_model.specs.declared.script.Who.TheVariants as Who
use Rattle.journey_script.specs.declared.fault.ScriptFault.{ScriptFault}
use Rattle.journey_script.specs.declared.fault.ScriptFault.TheVariants.{BadSetting, NoConnection, NoDevice, SettingsClosed, TooManyDevices, TooManyOpen, TwiceDevice, ValueCount, ValueTooWide}

-- What the lines so far say of a device that has its `device` line.
pub record Enrolled : Type 0 where
  pub codec : Codec
  pub settings : List IoSetting
  -- a `fix`, `round`, `drain`, `power` or `fuse` line of the device came: no `io` line may follow
  pub closed : Bool

abbrev pub with_setting : IoSetting → Enrolled → Enrolled
with_setting setting d = record d { settings = d.settings ++ setting ∷ [] }

abbrev pub with_closed : Enrolled → Enrolled
with_closed d = record d { closed = true }

-- a change that a line of this device makes
abbrev pub of_device : ℕ → (Enrolled → Enrolled) → ℕ → Option Enrolled → Option Enrolled
of_device who change imei before = if who == imei then option_map change before else before

abbrev pub enrolled_after : ℕ → Option Enrolled → ScriptLine → Option Enrolled
enrolled_after imei before (Line.Device who codec slots order period distance angle speed known) =
    if who == imei then Some (record { codec = codec; settings = []; closed = false }) else before
enrolled_after imei before (Line.Setting who setting) = of_device who (with_setting setting) imei before
enrolled_after imei before (Line.Fix who fix) = of_device who with_closed imei before
enrolled_after imei before (Line.Round who piece up down) = of_device who with_closed imei before
enrolled_after imei before (Line.Drain who piece) = of_device who with_closed imei before
enrolled_after imei before (Line.Late connection bytes) = before
enrolled_after imei before (Line.Close connection) = before
enrolled_after imei before (Line.Power (Who.Device who)) = of_device who with_closed imei before
enrolled_after imei before (Line.Power Who.Server) = before
enrolled_after imei before (Line.Fuse (Who.Device who) calls tear) = of_device who with_closed imei before
enrolled_after imei before (Line.Fuse Who.Server calls tear) = before

-- the device of an IMEI among these lines
abbrev pub enrolled_in : List ScriptLine → ℕ → Option Enrolled
enrolled_in lines imei = fold (enrolled_after imei) None lines

abbrev pub is_device_line : ScriptLine → Bool
is_device_line (Line.Device imei codec slots order period distance angle speed known) = true
is_device_line (Line.Setting imei setting) = false
is_device_line (Line.Fix imei fix) = false
is_device_line (Line.Round imei piece up down) = false
is_device_line (Line.Drain imei piece) = false
is_device_line (Line.Late connection bytes) = false
is_device_line (Line.Close connection) = false
is_device_line (Line.Power who) = false
is_device_line (Line.Fuse who calls tear) = false

abbrev pub device_count : List ScriptLine → ℕ
device_count lines = count_by is_device_line lines

-- how many connections these lines made: one for each `round` and `drain` line
abbrev pub connection_count : List ScriptLine → ℕ
connection_count lines = count_by (λ l. is_some (opening_of l)) lines

-- how many of them are half-open at their end
abbrev pub open_count : List ScriptLine → ℕ
open_count lines = count_by (λ c. c.half_open) (connections_of lines)

-- this fault, where it is one
abbrev pub when : Bool → ScriptFault → Option ScriptFault
when faulty fault = if faulty then Some fault else None

infixl 20 ◌then◌
-- the first fault of two
abbrev pub ◌then◌ : Option ScriptFault → Option ScriptFault → Option ScriptFault
(Some fault) then next = Some fault
None then next = next

abbrev pub unless_enrolled : Option Enrolled → (Enrolled → Option ScriptFault) → Option ScriptFault
unless_enrolled None next = Some NoDevice
unless_enrolled (Some d) next = next d

abbrev pub device_fault : Option Enrolled → ℕ → Option ScriptFault
device_fault before devices = when (is_some before) TwiceDevice then when (nat_le 64 devices) TooManyDevices

abbrev pub setting_line_fault : Option Enrolled → IoSetting → Option ScriptFault
setting_line_fault before setting = unless_enrolled before (λ d. when d.closed SettingsClosed
    then when (is_some (setting_fault d.codec (d.settings ++ setting ∷ []))) BadSetting)

-- each value fits its setting's width
abbrev pub all_fit : List IoSetting → List ℕ → Bool
all_fit settings values = list_all (λ p. nat_lt p.1 (limit (width_of p.0))) (zip settings values)

abbrev pub values_fault : List IoSetting → List ℕ → Option ScriptFault
values_fault settings values = when (not (length values == length settings)) ValueCount then when (not (all_fit settings values)) ValueTooWide

abbrev pub fix_fault : Option Enrolled → List ℕ → Option ScriptFault
fix_fault before values = unless_enrolled before (λ d. values_fault d.settings values)

abbrev pub connection_fault : ℕ → ℕ → Option ScriptFault
connection_fault connections connection = when ((connection == 0) || nat_lt connections connection) NoConnection

-- the fault that a line has after these lines
unfoldable pub later_fault : List ScriptLine → ScriptLine → Option ScriptFault
later_fault lines (Line.Device imei codec slots order period distance angle speed known) = device_fault (enrolled_in lines imei) (device_count lines)
later_fault lines (Line.Setting imei setting) = setting_line_fault (enrolled_in lines imei) setting
later_fault lines (Line.Fix imei fix) = fix_fault (enrolled_in lines imei) fix.values.items
later_fault lines (Line.Round imei piece up down) = unless_enrolled (enrolled_in lines imei)
    (λ d. when (nat_lt 64 (open_count (lines ++ Line.Round imei piece up down ∷ []))) TooManyOpen)
later_fault lines (Line.Drain imei piece) = unless_enrolled (enrolled_in lines imei) (λ d. None)
later_fault lines (Line.Late connection bytes) = connection_fault (connection_count lines) connection
later_fault lines (Line.Close connection) = connection_fault (connection_count lines) connection
later_fault lines (Line.Power (Who.Device imei)) = unless_enrolled (enrolled_in lines imei) (λ d. None)
later_fault lines (Line.Power Who.Server) = None
later_fault lines (Line.Fuse (Who.Device imei) calls tear) = unless_enrolled (enrolled_in lines imei) (λ d. None)
later_fault lines (Line.Fuse Who.Server calls tear) = None
