-- The lines that a script keeps, as lines of a script.
use Rattle.std.specs.Prelude.{◌≡◌, ℕ, ◌≤◌, List, map, vec_len, Result, Ok, Err}
use Rattle.std.specs.List.{AllByRecursion, enumerate_from}
use Rattle.trial_model.specs.Script.{Script, lines_of}
use Rattle.trial_model.specs.declared.script.ScriptLine.{ScriptLine}
use Rattle.trial_model.specs.declared.script.ScriptLine.TheVariants as Line
use Rattle.journey_script.specs.declared.compact.CompactFix.{CompactFix}
use Rattle.journey_script.specs.declared.compact.CompactLine.{CompactLine}
use Rattle.journey_script.specs.declared.compact.CompactLine.TheVariants as Compact
use Rattle.journey_script.specs.declared.compact.NumberedLine.{NumberedLine}
use Rattle.journey_script.specs.declared.fault.LineFault.{LineFault}
use Rattle.journey_script.specs.declared.fix_line.FixHead.{FixHead}
use Rattle.journey_script.specs.declared.fault.ScriptFault.{ScriptFault}
use Rattle.journey_script.specs.Grammar.{IsScript}
use Rattle.journey_script.specs.Lines.{fix_with}

abbrev pub fix_line : ℕ → CompactFix → ScriptLine
fix_line imei fix = Line.Fix imei (record { time = fix.time; gps = fix.gps; odometer = fix.odometer; values = record { items = fix.values.items } })

abbrev pub line_in : CompactLine → ScriptLine
line_in (Compact.Device imei codec slots order period distance angle speed known) = Line.Device imei codec slots order period distance angle speed known
line_in (Compact.Setting imei setting) = Line.Setting imei setting
line_in (Compact.Fix imei fix) = fix_line imei fix.value
line_in (Compact.Round imei piece up down) = Line.Round imei piece up down
line_in (Compact.Drain imei piece) = Line.Drain imei piece
line_in (Compact.Late connection bytes) = Line.Late connection bytes
line_in (Compact.Close connection) = Line.Close connection
line_in (Compact.Power who) = Line.Power who
line_in (Compact.Fuse who calls tear) = Line.Fuse who calls tear

-- a fix has as many values as a device may have settings
abbrev pub HasFewValues : CompactLine → Type 0
HasFewValues (Compact.Device imei codec slots order period distance angle speed known) = Unit {0}
HasFewValues (Compact.Setting imei setting) = Unit {0}
HasFewValues (Compact.Fix imei fix) = vec_len fix.value.values ≤ 32
HasFewValues (Compact.Round imei piece up down) = Unit {0}
HasFewValues (Compact.Drain imei piece) = Unit {0}
HasFewValues (Compact.Late connection bytes) = Unit {0}
HasFewValues (Compact.Close connection) = Unit {0}
HasFewValues (Compact.Power who) = Unit {0}
HasFewValues (Compact.Fuse who calls tear) = Unit {0}

-- the line that was read, or its fault
abbrev pub says : Result CompactLine ScriptFault → Result ScriptLine ScriptFault
says (Ok line) = Ok (line_in line)
says (Err fault) = Err fault

-- a fault is that of a line; out of memory says nothing
abbrev pub RefusesLine : {A : Type 0} → Result A ScriptFault → LineFault → Type 0
RefusesLine said (LineFault.Fault kind) = said ≡ Err kind
RefusesLine said LineFault.NoMemory = Unit {0}

-- what comes before the values of a `fix` line
abbrev pub head_says : Result FixHead ScriptFault → Result (List ℕ → ScriptLine) ScriptFault
head_says (Ok head) = Ok (fix_with head.imei head.time head.gps.longitude head.gps.latitude head.gps.altitude head.gps.angle head.gps.satellites head.gps.speed head.odometer)
head_says (Err fault) = Err fault

abbrev pub script_in : List NumberedLine → Script
script_in lines = map (λ l. (l.number, line_in l.line)) lines

abbrev pub AllFew : List NumberedLine → Type 0
AllFew lines = AllByRecursion (λ l. HasFewValues l.line) lines

-- What a script keeps: these lines are those of some text that is a script.
pub record IsKept (lines : List NumberedLine) : Type 0 where
  pub few : AllFew lines
  pub is_script : IsScript (script_in lines)

-- What a draft keeps: lines that are numbered from 1, without a gap.
pub record IsNumbered (lines : List NumberedLine) : Type 0 where
  pub few : AllFew lines
  pub in_order : script_in lines ≡ enumerate_from 1 (lines_of (script_in lines))
