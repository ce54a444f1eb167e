-- What the reader keeps, line after line.
use Rattle.std.specs.Prelude.{◌≡◌, ℕ, List, [], ◌∷◌, ◌++◌, None, Ok}
use Rattle.std.specs.BTreeMap.{btree_map_len}
use Rattle.trial_model.specs.declared.script.ScriptLine.{ScriptLine}
use Rattle.trial_model.specs.Script.{Script, lines_of}
use Rattle.journey_script.specs.declared.compact.NumberedLine.{NumberedLine}
use Rattle.journey_script.specs.declared.fault.LineFault.{LineFault}
use Rattle.journey_script.specs.declared.fault.ReadFault.{ReadFault}
use Rattle.journey_script.specs.declared.fault.ReadFault.TheVariants as Fault
use Rattle.journey_script.specs.declared.standing.Standing.{Standing}
use Rattle.journey_script.specs.Compact.{line_in}
use Rattle.journey_script.specs.Grammar.{Refuses, with_line}
use Rattle.journey_script.specs.Lines.{line_of}
use Rattle.journey_script.specs.Later.{device_count, enrolled_in, later_fault}
use Rattle.journey_script.specs.Standing.{KnowsConnections, RefusesLater, enrolled_at}

-- What is kept is what these lines say.
pub record Knows (standing : Standing) (lines : List ScriptLine) : Type 0 where
  pub enrolled : (imei : ℕ) → enrolled_at standing.devices imei ≡ enrolled_in lines imei
  pub device_lines : btree_map_len standing.devices ≡ device_count lines
  pub connection_lines : KnowsConnections standing.connections lines

-- A line has no fault after these lines, and what is kept next is what they say with it.
pub record IsTaken (new : Standing) (lines : List ScriptLine) (line : ScriptLine) : Type 0 where
  pub sound : later_fault lines line ≡ None
  pub knows : Knows new (lines ++ line ∷ [])

-- so it is after whatever lines are known
abbrev pub Takes : Standing → Standing → ScriptLine → Type 0
Takes old new line = (lines : List ScriptLine) → Knows old lines → IsTaken new lines line

-- its fault is that after whatever lines are known
abbrev pub IsRefusedBy : Standing → ScriptLine → LineFault → Type 0
IsRefusedBy old line fault = (lines : List ScriptLine) → Knows old lines → RefusesLater (later_fault lines line) fault

-- the fault with its line's number
abbrev pub fault_at : ℕ → LineFault → ReadFault
fault_at number (LineFault.Fault kind) = Fault.Line number kind
fault_at number LineFault.NoMemory = Fault.NoMemory

-- A line of the text is taken after these lines.
pub record IsTakenText (new : Standing) (number : ℕ) (text : List ℕ) (taken : NumberedLine) (script : Script) : Type 0 where
  pub script_grows : with_line script number (line_of text) ≡ Ok (script ++ (taken.number, line_in taken.line) ∷ [])
  pub knows : Knows new (lines_of (script ++ (taken.number, line_in taken.line) ∷ []))

-- so it is after whatever lines are known
abbrev pub TakesText : Standing → Standing → ℕ → List ℕ → NumberedLine → Type 0
TakesText old new number text taken = (script : Script) → Knows old (lines_of script) → IsTakenText new number text taken script

-- its fault is that after whatever lines are known
abbrev pub IsRefusedAt : Standing → ℕ → List ℕ → ReadFault → Type 0
IsRefusedAt old number text fault = (script : Script) → Knows old (lines_of script) → Refuses (with_line script number (line_of text)) fault
