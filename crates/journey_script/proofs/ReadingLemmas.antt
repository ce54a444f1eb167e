-- The lines of a text, one after the other.
use Rattle.std.proofs.Common.{◌≡◌, ℕ, ◌^◌, ◌<◌, ◌≤◌, nat_lt, true, false, List, [], ◌∷◌, ◌++◌, length, Result, Ok, Err, refl, sym, ap, subst, ◌∙◌, arith}
use Rattle.std.specs.List.{fold}
use Rattle.std.proofs.lemmas.List.{map_push}
use Rattle.std.proofs.lemmas.Bool.Decides.{nat_tests}
use Rattle.text_lines.specs.Lines.{content_lines}
use Rattle.trial_model.specs.Script.{Script, lines_of}
use Rattle.trial_model.specs.declared.script.ScriptLine.{ScriptLine}
use Rattle.journey_script.specs.declared.compact.NumberedLine.{NumberedLine}
use Rattle.journey_script.specs.declared.fault.LineFault.{LineFault}
use Rattle.journey_script.specs.declared.fault.ReadFault.{ReadFault}
use Rattle.journey_script.specs.declared.fault.ReadFault.TheVariants as Fault
use Rattle.journey_script.specs.declared.fault.ScriptFault.TheVariants.{TextTooLong}
use Rattle.journey_script.specs.declared.standing.Standing.{Standing}
use Rattle.journey_script.specs.Compact.{AllFew, HasFewValues, RefusesLine, line_in, script_in}
use Rattle.journey_script.specs.Grammar.{Refusal, Refuses, script_of, with_judged, with_line, with_text_line}
use Rattle.journey_script.specs.Lines.{line_of}
use Rattle.journey_script.specs.Taking.{IsRefusedAt, IsRefusedBy, Knows, Takes, TakesText, fault_at}

-- a line that has a fault by itself
pub refused_itself : (old : Standing) (number : ℕ) (text : List ℕ) (fault : LineFault) → RefusesLine (line_of text) fault → IsRefusedAt old number text (fault_at number fault)
unfolding with_line
refused_itself old number text (LineFault.Fault kind) h = λ script known. ap (with_line script number) h
refused_itself old number text LineFault.NoMemory h = λ script known. tt

-- or by the lines before it
pub refused_later : (old : Standing) (number : ℕ) (text : List ℕ) (line : ScriptLine) (fault : LineFault) → line_of text ≡ Ok line → IsRefusedBy old line fault → IsRefusedAt old number text (fault_at number fault)
unfolding with_line
refused_later old number text line (LineFault.Fault kind) said h = λ script known. ap (with_line script number) said ∙ ap (with_judged script number line) (h (lines_of script) known)
refused_later old number text line LineFault.NoMemory said h = λ script known. tt

lines_push : (script : Script) (number : ℕ) (line : ScriptLine) → lines_of (script ++ (number, line) ∷ []) ≡ lines_of script ++ line ∷ []
lines_push script number line = map_push (λ (l : ℕ × ScriptLine). l.1) script (number, line)

-- a line that has none
pub taken_line : (old new : Standing) (text : List ℕ) (taken : NumberedLine) → line_of text ≡ Ok (line_in taken.line) → Takes old new (line_in taken.line) → TakesText old new taken.number text taken
unfolding with_line
taken_line old new text taken said takes = λ script known.
    let is = takes (lines_of script) known in
    record {
      script_grows = ap (with_line script taken.number) said ∙ ap (with_judged script taken.number (line_in taken.line)) is.sound;
      knows = subst (Knows new) (sym (lines_push script taken.number (line_in taken.line))) is.knows;
    }

-- lines after a refusal change nothing
stays : (lines : List (ℕ × List ℕ)) (refusal : Refusal) → fold with_text_line (Err refusal) lines ≡ Err refusal
stays [] refusal = refl
stays (line ∷ lines) refusal = stays lines refusal

-- so the first line that has a fault decides
pub refused_line : (number : ℕ) (line : List ℕ) (lines rest : List (ℕ × List ℕ)) (script : Script) (fault : ReadFault) → lines ≡ (number, line) ∷ rest
    → Refuses (with_line script number (line_of line)) fault → Refuses (fold with_text_line (Ok script) lines) fault
refused_line number line lines rest script (Fault.Line l kind) is refused =
    ap (fold with_text_line (Ok script)) is ∙ ap (λ told. fold with_text_line told rest) refused ∙ stays rest (record { line = l; kind = kind })
refused_line number line lines rest script Fault.NoMemory is refused = tt

pub whole_text : (text : List ℕ) → length text ≤ 2 ^ 24 → script_of text ≡ fold with_text_line (Ok []) (content_lines text)
unfolding script_of
whole_text text h = let e : nat_lt (2 ^ 24) (length text) ≡ false = grind (arith, nat_tests) in rw e refl

pub too_long : (text : List ℕ) → 2 ^ 24 < length text → script_of text ≡ Err (record { line = 0; kind = TextTooLong })
unfolding script_of
too_long text h = let e : nat_lt (2 ^ 24) (length text) ≡ true = grind (arith, nat_tests) in rw e refl

pub script_push : (lines : List NumberedLine) (line : NumberedLine) → script_in (lines ++ line ∷ []) ≡ script_in lines ++ (line.number, line_in line.line) ∷ []
script_push lines line = map_push (λ (l : NumberedLine). (l.number, line_in l.line)) lines line

pub few_push : (lines : List NumberedLine) (line : NumberedLine) → AllFew lines → HasFewValues line.line → AllFew (lines ++ line ∷ [])
few_push [] line few h = (h, tt)
few_push (l ∷ lines) line few h = (few.0, few_push lines line few.1 h)

-- the line after those that were read
pub read_on : (lines : List NumberedLine) (taken : NumberedLine) (number : ℕ) (text : List ℕ) (all rest : List (ℕ × List ℕ)) (told : Result Script Refusal) → fold with_text_line (Ok (script_in lines)) all ≡ told
    → all ≡ (number, text) ∷ rest → with_line (script_in lines) number (line_of text) ≡ Ok (script_in lines ++ (taken.number, line_in taken.line) ∷ [])
    → fold with_text_line (Ok (script_in (lines ++ taken ∷ []))) rest ≡ told
read_on lines taken number text all rest told h is grows =
    ap (λ (s : Script). fold with_text_line (Ok s) rest) (script_push lines taken) ∙ ap (λ (r : Result Script Refusal). fold with_text_line r rest) (sym grows)
    ∙ ap (λ (ls : List (ℕ × List ℕ)). fold with_text_line (Ok (script_in lines)) ls) (sym is) ∙ h
