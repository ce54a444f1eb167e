-- Which text is a script, and what the first fault of another text is (this project's own).
use Rattle.std.specs.Prelude.{ℕ, ◌^◌, nat_lt, List, [], ◌∷◌, ◌++◌, length, Option, Some, None, Result, Ok, Err, ◌≡◌, if◌then◌else◌}
use Rattle.std.specs.List.{fold}
use Rattle.text_lines.specs.Lines.{content_lines}
use Rattle.trial_model.specs.Script.{Script, lines_of}
use Rattle.trial_model.specs.declared.script.ScriptLine.{ScriptLine}
use Rattle.journey_script.specs.declared.fault.ReadFault.{ReadFault}
use Rattle.journey_script.specs.declared.fault.ReadFault.TheVariants as Fault
use Rattle.journey_script.specs.declared.fault.ScriptFault.{ScriptFault}
use Rattle.journey_script.specs.declared.fault.ScriptFault.TheVariants.{TextTooLong}
use Rattle.journey_script.specs.Later.{later_fault}
use Rattle.journey_script.specs.Lines.{line_of}

-- The first line that is refused, from 1, and its first fault. A text that is too long is refused as line 0.
pub record Refusal : Type 0 where
  pub line : ℕ
  pub kind : ScriptFault

-- the script with one line more, unless that has a fault by the lines before it
abbrev pub with_judged : Script → ℕ → ScriptLine → Option ScriptFault → Result Script Refusal
with_judged script number line None = Ok (script ++ (number, line) ∷ [])
with_judged script number line (Some fault) = Err (record { line = number; kind = fault })

-- the same, unless the line has a fault by itself
unfoldable pub with_line : Script → ℕ → Result ScriptLine ScriptFault → Result Script Refusal
with_line script number (Err fault) = Err (record { line = number; kind = fault })
with_line script number (Ok line) = with_judged script number line (later_fault (lines_of script) line)

-- the script with a line of the text more; the first line that has a fault decides
abbrev pub with_text_line : Result Script Refusal → ℕ × List ℕ → Result Script Refusal
with_text_line (Ok script) line = with_line script line.0 (line_of line.1)
with_text_line (Err refusal) line = Err refusal

-- the script of a text, or its refusal
unfoldable pub script_of : List ℕ → Result Script Refusal
script_of text =
    if nat_lt (2 ^ 24) (length text) then Err (record { line = 0; kind = TextTooLong }) else fold with_text_line (Ok []) (content_lines text)

-- a refusal is that of the text; out of memory says nothing
abbrev pub Refuses : Result Script Refusal → ReadFault → Type 0
Refuses told (Fault.Line line kind) = told ≡ Err (record { line = line; kind = kind })
Refuses told Fault.NoMemory = Unit {0}

-- These lines are those of some text that is a script.
pub record IsScript (script : Script) : Type 0 where
  pub text : List ℕ
  pub is_read : script_of text ≡ Ok script
