-- Lines that are put in a draft, one after another.
use Rattle.std.proofs.Common.{◌≡◌, ◌+◌, ℕ, List, [], ◌∷◌, ◌++◌, length, sym, ap, ◌∙◌, arith}
use Rattle.std.specs.List.{enumerate_from}
use Rattle.std.proofs.lemmas.List.{length-map, map_push}
use Rattle.trial_model.specs.Script.{Script, lines_of}
use Rattle.trial_model.specs.declared.script.ScriptLine.{ScriptLine}
use Rattle.journey_script.specs.declared.compact.NumberedLine.{NumberedLine}
use Rattle.journey_script.specs.Compact.{HasFewValues, IsNumbered, line_in, script_in}
use Rattle.journey_script.proofs.ReadingLemmas.{few_push, script_push}

pub draft_length : (lines : List NumberedLine) → length (lines_of (script_in lines)) ≡ length lines
draft_length lines = length-map (script_in lines) (λ (l : ℕ × ScriptLine). l.1) ∙ length-map lines (λ (l : NumberedLine). (l.number, line_in l.line))

enumerate_push : (n m : ℕ) (lines : List ScriptLine) (line : ScriptLine) → m ≡ n + length lines → enumerate_from n (lines ++ line ∷ []) ≡ enumerate_from n lines ++ (m, line) ∷ []
enumerate_push n m [] line e = let same : n ≡ m = omega arith in ap (λ (k : ℕ). (k, line) ∷ []) same
enumerate_push n m (l ∷ ls) line e = ap (λ (xs : Script). (n, l) ∷ xs) (enumerate_push (n + 1) m ls line (omega arith))

pub draft_push : (lines : List NumberedLine) (new : NumberedLine) → lines_of (script_in (lines ++ new ∷ [])) ≡ lines_of (script_in lines) ++ line_in new.line ∷ []
draft_push lines new = ap lines_of (script_push lines new) ∙ map_push (λ (l : ℕ × ScriptLine). l.1) (script_in lines) (new.number, line_in new.line)

pub numbered_push : (lines : List NumberedLine) (new : NumberedLine) → IsNumbered lines → HasFewValues new.line → new.number ≡ length lines + 1 → IsNumbered (lines ++ new ∷ [])
numbered_push lines new known few number = record {
  few = few_push lines new known.few few;
  in_order = script_push lines new ∙ ap (λ (s : Script). s ++ (new.number, line_in new.line) ∷ []) known.in_order
      ∙ sym (enumerate_push 1 new.number (lines_of (script_in lines)) (line_in new.line) (omega (arith, number, draft_length lines)))
      ∙ ap (enumerate_from 1) (sym (draft_push lines new));
}
