-- Lines that were made rather than read are those of a script.
use Rattle.std.proofs.Common.{◌≡◌, ◌+◌, ◌-◌, ◌^◌, ◌≤◌, ℕ, List, [], ◌∷◌, ◌++◌, map, replicate, length, None, Result, Ok, refl, sym, ap, subst, ◌∙◌, append_assoc, arith}
use Rattle.std.specs.List.{AllByRecursion, enumerate_from, fold, join_with_byte}
use Rattle.std.proofs.lemmas.List.{append-nil, map_push}
use Rattle.text_lines.specs.Lines.{content_from, content_lines}
use Rattle.trial_model.specs.Script.{Script, lines_of}
use Rattle.trial_model.specs.declared.script.ScriptLine.{ScriptLine}
use Rattle.journey_script.specs.Grammar.{IsScript, Refusal, with_judged, with_line, with_text_line}
use Rattle.journey_script.specs.Later.{later_fault}
use Rattle.journey_script.specs.Lines.{first_of, line_of, rest_of}
use Rattle.journey_script.specs.Writing.{spelled, words_of, written}
use Rattle.journey_script.proofs.LineReading.{IsWritable, first_and_rest, line_kept, line_read}
use Rattle.journey_script.proofs.ReadingLemmas.{whole_text}
use Rattle.journey_script.proofs.ScriptLaws.{AreSound}
use Rattle.journey_script.proofs.WrittenLemmas.{AllKept, AllSay, AreRising, Texts, clean_with, content_with, join_most, join_total, lines_again, lines_with, texts_of, total, written_as}

abbrev pub AllWritable : List ScriptLine → Type 0
AllWritable lines = AllByRecursion IsWritable lines

abbrev texts : ℕ → List ScriptLine → Texts
texts n lines = texts_of (enumerate_from n lines)

rising : (n : ℕ) (lines : List ScriptLine) → AreRising n (texts n lines)
rising n [] = tt
rising n (line ∷ lines) = (omega arith, rising (n + 1) lines)

kept : (n : ℕ) (lines : List ScriptLine) → AllKept (texts n lines)
kept n [] = tt
kept n (line ∷ lines) = (line_kept line, kept (n + 1) lines)

say : (n : ℕ) (lines : List ScriptLine) → AllWritable lines → AllSay (texts n lines)
say n [] h = tt
say n (line ∷ lines) h = ((line, line_read line h.0), say (n + 1) lines h.1)

-- no line is left out
no_gap : (n : ℕ) (lines : List ScriptLine) → lines_with n (texts n lines) ≡ map spelled lines
no_gap n [] = refl
no_gap n (line ∷ lines) =
    let none : n - n ≡ 0 = omega arith in
    ap (λ (k : ℕ). replicate k [] ++ spelled line ∷ lines_with (n + 1) (texts (n + 1) lines)) none ∙ ap (λ (xs : List (List ℕ)). spelled line ∷ xs) (no_gap (n + 1) lines)

judged : (before : Script) (number : ℕ) (line : ScriptLine) → later_fault (lines_of before) line ≡ None → with_line before number (Ok line) ≡ Ok (before ++ (number, line) ∷ [])
unfolding with_line
judged before number line sound = ap (with_judged before number line) sound

read_on : (n : ℕ) (before : Script) (lines : List ScriptLine) → AllWritable lines → AreSound (lines_of before) lines
    → fold with_text_line (Ok before) (texts n lines) ≡ Ok (before ++ enumerate_from n lines)
read_on n before [] h sound = ap Ok (sym (append-nil before))
read_on n before (line ∷ lines) h sound =
    let first : with_line before n (line_of (spelled line)) ≡ Ok (before ++ (n, line) ∷ []) = ap (with_line before n) (line_read line h.0) ∙ judged before n line sound.0 in
    let more : lines_of (before ++ (n, line) ∷ []) ≡ lines_of before ++ line ∷ [] = map_push (λ (l : ℕ × ScriptLine). l.1) before (n, line) in
    let rest : AreSound (lines_of (before ++ (n, line) ∷ [])) lines = subst (λ (ls : List ScriptLine). AreSound ls lines) (sym more) sound.1 in
    ap (λ (r : Result Script Refusal). fold with_text_line r (texts (n + 1) lines)) first
    ∙ read_on (n + 1) (before ++ (n, line) ∷ []) lines h.1 rest ∙ ap Ok (append_assoc before ((n, line) ∷ []) (enumerate_from (n + 1) lines))

written_joined : (lines : List ScriptLine) → written (enumerate_from 1 lines) ≡ join_with_byte 10 (lines_with 1 (texts 1 lines))
unfolding written
written_joined lines = ap (join_with_byte 10) (written_as 1 (enumerate_from 1 lines))

content : (lines : List ScriptLine) → AllWritable lines → content_lines (written (enumerate_from 1 lines)) ≡ texts 1 lines
content lines h =
    ap content_lines (written_joined lines) ∙ ap (content_from 1) (lines_again (lines_with 1 (texts 1 lines)) (clean_with 1 (texts 1 lines) (say 1 lines h) (kept 1 lines)))
    ∙ content_with 1 (texts 1 lines) (rising 1 lines) (kept 1 lines)

-- Lines in their ranges, each without a fault by those before it, and few bytes.
pub is_script : (lines : List ScriptLine) → AllWritable lines → AreSound [] lines → total (map spelled lines) ≤ 2 ^ 24 + 1 → IsScript (enumerate_from 1 lines)
is_script lines h sound few =
    let text = written (enumerate_from 1 lines) in
    let whole : text ≡ join_with_byte 10 (map spelled lines) = written_joined lines ∙ ap (join_with_byte 10) (no_gap 1 lines) in
    let short : length text ≤ 2 ^ 24 = omega (arith, ap (λ (t : List ℕ). length t) whole, join_most (map spelled lines) (2 ^ 24) few) in
    record { text = text; is_read = whole_text text short ∙ ap (fold with_text_line (Ok [])) (content lines h) ∙ read_on 1 [] lines h sound }

joined_total : (words : List (List ℕ)) → first_of words ∷ rest_of words ≡ words → length (join_with_byte 32 words) + 1 ≡ total words
joined_total [] e = absurd (cc)
joined_total (x ∷ xs) e = join_total 32 x xs

-- The bytes of a line, and of its end.
pub spelled_total : (line : ScriptLine) → length (spelled line) + 1 ≡ total (words_of line)
unfolding spelled
spelled_total line = joined_total (words_of line) (first_and_rest line)
