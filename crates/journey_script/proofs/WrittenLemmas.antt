-- What is written is read as the same script.
use Rattle.std.proofs.Common.{◌≡◌, ◌==◌, ◌+◌, ◌-◌, ◌^◌, ◌<◌, ◌≤◌, ℕ, zero, suc, Bool, true, false, not, nat_le, nat_lt, cond, List, [], ◌∷◌, ◌++◌, map, take, get_or, slice_index, length, length-append, replicate, Option, Some, None, Result, Ok, Err, refl, sym, ap, subst, ◌∙◌, append_assoc, arith, if◌then◌else◌}
use Rattle.std.specs.List.{All, AllByRecursion, fold, join_with_byte, slice_split}
use Rattle.std.specs.Str.Lines.{lines, lines_of_parts, strip_carriage_return}
use Rattle.std.proofs.lemmas.Bool.Decides.{nat_tests}
use Rattle.std.proofs.lemmas.List.{append-nil, length-take}
use Rattle.std.proofs.lemmas.List.Splits.{join_with_byte-slice_split, length-slice_split}
use Rattle.text_lines.specs.Lines.{content_from, content_lines, is_skipped}
use Rattle.trial_model.specs.Script.{Script, lines_of}
use Rattle.trial_model.specs.declared.script.ScriptLine.{ScriptLine}
use Rattle.journey_script.specs.declared.fault.ScriptFault.{ScriptFault}
use Rattle.journey_script.specs.declared.fault.ScriptFault.TheVariants.{TextTooLong}
use Rattle.journey_script.specs.Grammar.{IsScript, Refusal, script_of, with_judged, with_line, with_text_line}
use Rattle.journey_script.specs.Later.{later_fault}
use Rattle.journey_script.specs.Lines.{line_of}
use Rattle.journey_script.specs.Writing.{spelled, written, written_lines}
use Rattle.journey_script.specs.WrittenText.{after_line}
use Rattle.journey_script.proofs.ReadingLemmas.{whole_text}
use Rattle.journey_script.proofs.FieldSpelling.{both}
use Rattle.journey_script.proofs.LineReading.{AllLack, cut_joined}
use Rattle.journey_script.proofs.LineSpelling.{AllPrintable, one_spelling, printable, read_words}

-- numbered lines
abbrev pub Texts : Type 0
Texts = List (ℕ × List ℕ)

-- a script's lines as texts
abbrev pub texts_of : Script → Texts
texts_of script = map (λ l. (l.0, spelled l.1)) script

-- each says something
abbrev pub AllSay : Texts → Type 0
AllSay ts = AllByRecursion (λ t. (line : ScriptLine) × (line_of t.1 ≡ Ok line)) ts

-- What was read of the lines of a text, after these.
record IsReadOn (all : Texts) (before script : Script) : Type 0 where
  more : Script
  whole : script ≡ before ++ more
  texts : texts_of more ≡ all
  say : AllSay all

refuses : (all : Texts) (refusal : Refusal) (script : Script) → fold with_text_line (Err refusal) all ≡ Ok script → ⊥
refuses [] refusal script h = cc
refuses (t ∷ ts) refusal script h = refuses ts refusal script h

judged_line : (all : Texts) (before script : Script) (number : ℕ) (line : ScriptLine) (fault : Option ScriptFault) → fold with_text_line (with_judged before number line fault) all ≡ Ok script
    → fold with_text_line (Ok (before ++ (number, line) ∷ [])) all ≡ Ok script
judged_line all before script number line None h = h
judged_line all before script number line (Some fault) h = absurd (refuses all (record { line = number; kind = fault }) script h)

said_line : (all : Texts) (before script : Script) (number : ℕ) (said : Result ScriptLine ScriptFault) → fold with_text_line (with_line before number said) all ≡ Ok script
    → (line : ScriptLine) × (said ≡ Ok line) × (fold with_text_line (Ok (before ++ (number, line) ∷ [])) all ≡ Ok script)
unfolding with_line
said_line all before script number (Err fault) h = absurd (refuses all (record { line = number; kind = fault }) script h)
said_line all before script number (Ok line) h = (line, refl, judged_line all before script number line (later_fault (lines_of before) line) h)

read_texts : (all : Texts) (before script : Script) → fold with_text_line (Ok before) all ≡ Ok script → IsReadOn all before script
read_texts [] before script h = record { more = []; whole = let is : before ≡ script = cc in sym is ∙ sym (append-nil before); texts = refl; say = tt }
read_texts (t ∷ ts) before script h =
    let p = said_line ts before script t.0 (line_of t.1) h in
    let rest = read_texts ts (before ++ (t.0, p.0) ∷ []) script p.2 in
    record {
      more = (t.0, p.0) ∷ rest.more;
      whole = rest.whole ∙ append_assoc before ((t.0, p.0) ∷ []) rest.more;
      texts = ap (λ (x : List ℕ). (t.0, x) ∷ texts_of rest.more) (one_spelling t.1 p.0 p.1) ∙ ap (λ (xs : Texts). t ∷ xs) rest.texts;
      say = ((p.0, p.1), rest.say);
    }

-- ---- lines with an empty one for each that is skipped
abbrev pub lines_with : ℕ → Texts → List (List ℕ)
lines_with n [] = []
lines_with n (t ∷ ts) = replicate (t.0 - n) [] ++ t.1 ∷ lines_with (t.0 + 1) ts

pub written_as : (n : ℕ) (script : Script) → written_lines n script ≡ lines_with n (texts_of script)
written_as n [] = refl
written_as n (l ∷ ls) = ap (λ (xs : List (List ℕ)). replicate (l.0 - n) [] ++ spelled l.1 ∷ xs) (written_as (l.0 + 1) ls)

-- numbers that rise from this one on
abbrev pub AreRising : ℕ → Texts → Type 0
AreRising n [] = Unit {0}
AreRising n (t ∷ ts) = (n ≤ t.0) × AreRising (t.0 + 1) ts

-- no line is skipped
abbrev pub AllKept : Texts → Type 0
AllKept ts = AllByRecursion (λ t. is_skipped t.1 ≡ false) ts

rising_later : (n : ℕ) (ts : Texts) → AreRising (n + 1) ts → AreRising n ts
rising_later n [] h = tt
rising_later n (t ∷ ts) h = (omega (arith, h.0), h.1)

content_rises : (n : ℕ) (ls : List (List ℕ)) → AreRising n (content_from n ls) × AllKept (content_from n ls)
unfolding content_from
content_rises n [] = (tt, tt)
content_rises n (l ∷ ls) = by (is_skipped l) refl (content_rises (n + 1) ls)
  where
    by : (b : Bool) → is_skipped l ≡ b → AreRising (n + 1) (content_from (n + 1) ls) × AllKept (content_from (n + 1) ls)
        → AreRising n (cond (not b) ((n, l) ∷ content_from (n + 1) ls) (content_from (n + 1) ls)) × AllKept (cond (not b) ((n, l) ∷ content_from (n + 1) ls) (content_from (n + 1) ls))
    by true e rest = (rising_later n (content_from (n + 1) ls) rest.0, rest.1)
    by false e rest = ((omega arith, rest.0), (e, rest.1))

skip_empty : (k n : ℕ) (ls : List (List ℕ)) → content_from n (replicate k [] ++ ls) ≡ content_from (n + k) ls
unfolding content_from
skip_empty zero n ls = let same : n ≡ n + 0 = omega arith in ap (λ (m : ℕ). content_from m ls) same
skip_empty (suc k) n ls = let same : (n + 1) + k ≡ n + suc k = omega arith in skip_empty k (n + 1) ls ∙ ap (λ (m : ℕ). content_from m ls) same

content_kept : (n : ℕ) (t : List ℕ) (ls : List (List ℕ)) → is_skipped t ≡ false → content_from n (t ∷ ls) ≡ (n, t) ∷ content_from (n + 1) ls
unfolding content_from
content_kept n t ls h = ap (λ (b : Bool). cond (not b) ((n, t) ∷ content_from (n + 1) ls) (content_from (n + 1) ls)) h

content_none : (n : ℕ) → content_from n [] ≡ []
unfolding content_from
content_none n = refl

pub content_with : (n : ℕ) (ts : Texts) → AreRising n ts → AllKept ts → content_from n (lines_with n ts) ≡ ts
content_with n [] rising kept = content_none n
content_with n (t ∷ ts) rising kept =
    let at : n + (t.0 - n) ≡ t.0 = omega (arith, rising.0) in
    skip_empty (t.0 - n) n (t.1 ∷ lines_with (t.0 + 1) ts) ∙ ap (λ (m : ℕ). content_from m (t.1 ∷ lines_with (t.0 + 1) ts)) at
    ∙ content_kept t.0 t.1 (lines_with (t.0 + 1) ts) kept.0 ∙ ap (λ (xs : Texts). t ∷ xs) (content_with (t.0 + 1) ts rising.1 kept.1)

-- ---- lines that are joined and cut again
pub record IsClean (x : List ℕ) : Type 0 where
  pub no_end : All (λ b. (b == 10) ≡ false) x
  pub no_return : strip_carriage_return x ≡ x

-- each is clean, and the last has a byte
abbrev pub AreClean : List (List ℕ) → Type 0
AreClean [] = Unit {0}
AreClean (x ∷ []) = IsClean x × ((length x == 0) ≡ false)
AreClean (x ∷ y ∷ ys) = IsClean x × AreClean (y ∷ ys)

lack_ends : (x : List ℕ) (xs : List (List ℕ)) → AreClean (x ∷ xs) → AllLack 10 (x ∷ xs)
lack_ends x [] clean = (clean.0.no_end, tt)
lack_ends x (y ∷ ys) clean = (clean.0.no_end, lack_ends y ys clean.1)

cut_again : (x : List ℕ) (xs : List (List ℕ)) → AreClean (x ∷ xs) → slice_split (λ b. b == 10) (join_with_byte 10 (x ∷ xs)) ≡ x ∷ xs
cut_again x xs clean = cut_joined 10 x xs (lack_ends x xs clean)

same_lines : (x : List ℕ) (xs : List (List ℕ)) → AreClean (x ∷ xs) → lines_of_parts (x ∷ xs) ≡ x ∷ xs
same_lines x [] clean = ap (λ (b : Bool). if b then [] else x ∷ []) clean.1
same_lines x (y ∷ ys) clean = ap (λ (z : List ℕ). z ∷ lines_of_parts (y ∷ ys)) clean.0.no_return ∙ ap (λ (zs : List (List ℕ)). x ∷ zs) (same_lines y ys clean.1)

pub lines_again : (xs : List (List ℕ)) → AreClean xs → lines (join_with_byte 10 xs) ≡ xs
lines_again [] clean = refl
lines_again (x ∷ xs) clean = ap lines_of_parts (cut_again x xs clean) ∙ same_lines x xs clean

-- an empty line is clean, and so is one of printable bytes
empty_clean : IsClean []
empty_clean = record { no_end = λ k d below. absurd (omega arith); no_return = refl }

not_end : (b : ℕ) → nat_le 32 b ≡ true → (b == 10) ≡ false
not_end b h = grind (arith, nat_tests)

no_ends : (x : List ℕ) → printable x ≡ true → (k d : ℕ) → k < length x → (get_or x k d == 10) ≡ false
no_ends [] h k d below = absurd (omega arith)
no_ends (b ∷ bs) h zero d below = not_end b (both (nat_le 32 b) _ h).0
no_ends (b ∷ bs) h (suc k) d below = no_ends bs (both (nat_le 32 b) _ h).1 k d (omega arith)

not_return : (b : ℕ) → nat_le 32 b ≡ true → (b == 13) ≡ false
not_return b h = grind (arith, nat_tests)

last_byte : (x : List ℕ) (k : ℕ) → printable x ≡ true → (get_or x k 0 == 13) ≡ false
last_byte [] k h = refl
last_byte (b ∷ bs) zero h = not_return b (both (nat_le 32 b) _ h).0
last_byte (b ∷ bs) (suc k) h = last_byte bs k (both (nat_le 32 b) _ h).1

print_clean : (x : List ℕ) → printable x ≡ true → IsClean x
print_clean x h = record {
  no_end = no_ends x h;
  no_return = ap (λ (b : Bool). if b then take (length x - 1) x else x) (last_byte x (length x - 1) h);
}

print_append : (a b : List ℕ) → printable a ≡ true → printable b ≡ true → printable (a ++ b) ≡ true
print_append [] b pa pb = pb
print_append (x ∷ xs) b pa pb = let p = both (nat_le 32 x) _ pa in let rest = print_append xs b p.1 pb in rw p.0 rest

print_join : (fields : List (List ℕ)) → AllPrintable fields → printable (join_with_byte 32 fields) ≡ true
print_join [] h = refl
print_join (x ∷ []) h = h.0
print_join (x ∷ y ∷ ys) h = print_append x (32 ∷ join_with_byte 32 (y ∷ ys)) h.0 (print_join (y ∷ ys) h.1)

text_print : (t : List ℕ) (line : ScriptLine) → line_of t ≡ Ok line → printable t ≡ true
text_print t line h = subst (λ (s : List ℕ). printable s ≡ true) (join_with_byte-slice_split 32 t) (print_join (slice_split (λ b. b == 32) t) (read_words t line h).print)

clean_front : (k : ℕ) (x : List ℕ) (xs : List (List ℕ)) → AreClean (x ∷ xs) → AreClean (replicate k [] ++ x ∷ xs)
clean_front zero x xs h = h
clean_front (suc zero) x xs h = (empty_clean, h)
clean_front (suc (suc k)) x xs h = (empty_clean, clean_front (suc k) x xs h)

clean_cons : (x : List ℕ) (xs : List (List ℕ)) → IsClean x → (length x == 0) ≡ false → AreClean xs → AreClean (x ∷ xs)
clean_cons x [] c some h = (c, some)
clean_cons x (y ∷ ys) c some h = (c, h)

some_kept : (x : List ℕ) → is_skipped x ≡ false → (length x == 0) ≡ false
some_kept [] h = absurd (cc)
some_kept (b ∷ bs) h = grind (arith, nat_tests)

pub clean_with : (n : ℕ) (ts : Texts) → AllSay ts → AllKept ts → AreClean (lines_with n ts)
clean_with n [] say kept = tt
clean_with n (t ∷ ts) say kept =
    clean_front (t.0 - n) t.1 (lines_with (t.0 + 1) ts) (clean_cons t.1 (lines_with (t.0 + 1) ts) (print_clean t.1 (text_print t.1 say.0.0 say.0.1)) (some_kept t.1 kept.0) (clean_with (t.0 + 1) ts say.1 kept.1))

-- ---- lengths, with one byte more for each line
abbrev pub total : List (List ℕ) → ℕ
total [] = 0
total (x ∷ xs) = (length x + 1) + total xs

pub total_append : (xs ys : List (List ℕ)) → total (xs ++ ys) ≡ total xs + total ys
total_append [] ys = omega arith
total_append (x ∷ xs) ys = omega (arith, total_append xs ys)

total_empty : (k : ℕ) → total (replicate k []) ≡ k
total_empty zero = refl
total_empty (suc k) = omega (arith, total_empty k)

pub join_total : (c : ℕ) (x : List ℕ) (xs : List (List ℕ)) → length (join_with_byte c (x ∷ xs)) + 1 ≡ total (x ∷ xs)
join_total c x [] = omega arith
join_total c x (y ∷ ys) = omega (arith, join_total c y ys, length-append x (c ∷ join_with_byte c (y ∷ ys)))

pub join_most : (xs : List (List ℕ)) (most : ℕ) → total xs ≤ most + 1 → length (join_with_byte 10 xs) ≤ most
join_most [] most h = omega arith
join_most (x ∷ xs) most h = omega (arith, join_total 10 x xs)

parts_total : (text : List ℕ) (parts : List (List ℕ)) → slice_split (λ b. b == 10) text ≡ parts → total parts ≡ length text + 1
parts_total text [] is = absurd (omega (arith, length-slice_split (λ b. b == 10) text, ap (λ (ps : List (List ℕ)). length ps) is))
parts_total text (p ∷ ps) is =
    let whole : join_with_byte 10 (p ∷ ps) ≡ text = ap (join_with_byte 10) (sym is) ∙ join_with_byte-slice_split 10 text in
    sym (join_total 10 p ps) ∙ ap (λ (t : List ℕ). length t + 1) whole

stripped : (x : List ℕ) → length (strip_carriage_return x) ≤ length x
stripped x = by (slice_index x (length x - 1) == 13)
  where
    by : (b : Bool) → length (if b then take (length x - 1) x else x) ≤ length x
    by true = omega (arith, length-take (length x - 1) x)
    by false = omega arith

lines_total : (parts : List (List ℕ)) → total (lines_of_parts parts) ≤ total parts
lines_total [] = omega arith
lines_total (x ∷ []) = by (length x == 0)
  where
    by : (b : Bool) → total (if b then [] else x ∷ []) ≤ total (x ∷ [])
    by true = omega arith
    by false = omega arith
lines_total (x ∷ y ∷ more) = omega (arith, stripped x, lines_total (y ∷ more))

with_total : (n m : ℕ) (ls : List (List ℕ)) → n ≤ m → total (lines_with n (content_from m ls)) ≤ (m - n) + total ls
unfolding content_from
with_total n m [] h = omega arith
with_total n m (l ∷ ls) h = by (is_skipped l) (with_total n (m + 1) ls (omega arith)) (with_total (m + 1) (m + 1) ls (omega arith))
  where
    by : (b : Bool) → total (lines_with n (content_from (m + 1) ls)) ≤ ((m + 1) - n) + total ls → total (lines_with (m + 1) (content_from (m + 1) ls)) ≤ ((m + 1) - (m + 1)) + total ls
        → total (lines_with n (cond (not b) ((m, l) ∷ content_from (m + 1) ls) (content_from (m + 1) ls))) ≤ (m - n) + ((length l + 1) + total ls)
    by true skipped kept = omega arith
    by false skipped kept = omega (arith, total_append (replicate (m - n) []) (l ∷ lines_with (m + 1) (content_from (m + 1) ls)), total_empty (m - n))

written_short : (text : List ℕ) → length (join_with_byte 10 (lines_with 1 (content_lines text))) ≤ length text
written_short text =
    join_most (lines_with 1 (content_lines text)) (length text) (omega (arith, with_total 1 1 (lines text) (omega arith), lines_total (slice_split (λ b. b == 10) text), parts_total text (slice_split (λ b. b == 10) text) refl))

-- ---- the whole text
-- What is known of a text that is a script.
record IsReadText (text : List ℕ) (script : Script) : Type 0 where
  short : length text ≤ 2 ^ 24
  folded : fold with_text_line (Ok []) (content_lines text) ≡ Ok script
  texts : texts_of script ≡ content_lines text
  say : AllSay (content_lines text)

pub is_short : (text : List ℕ) (script : Script) → script_of text ≡ Ok script → (length text ≤ 2 ^ 24) × (fold with_text_line (Ok []) (content_lines text) ≡ Ok script)
unfolding script_of
is_short text script h = by (nat_lt (2 ^ 24) (length text)) refl h
  where
    by : (b : Bool) → nat_lt (2 ^ 24) (length text) ≡ b → (if b then Err (record { line = 0; kind = TextTooLong }) else fold with_text_line (Ok []) (content_lines text)) ≡ Ok script
        → (length text ≤ 2 ^ 24) × (fold with_text_line (Ok []) (content_lines text) ≡ Ok script)
    by true e h = absurd (cc)
    by false e h = (grind (arith, nat_tests), h)

read_text : (text : List ℕ) (script : Script) → script_of text ≡ Ok script → IsReadText text script
read_text text script h =
    let p = is_short text script h in
    let r = read_texts (content_lines text) [] script p.1 in
    record { short = p.0; folded = p.1; texts = ap texts_of r.whole ∙ r.texts; say = r.say }

written_is : (text : List ℕ) (script : Script) → texts_of script ≡ content_lines text → written script ≡ join_with_byte 10 (lines_with 1 (content_lines text))
unfolding written
written_is text script e = ap (join_with_byte 10) (written_as 1 script ∙ ap (lines_with 1) e)

content_written : (text : List ℕ) (script : Script) → IsReadText text script → content_lines (written script) ≡ content_lines text
content_written text script r =
    let rises = content_rises 1 (lines text) in
    ap content_lines (written_is text script r.texts) ∙ ap (content_from 1) (lines_again (lines_with 1 (content_lines text)) (clean_with 1 (content_lines text) r.say rises.1))
    ∙ content_with 1 (content_lines text) rises.0 rises.1

written_reads : (text : List ℕ) (script : Script) → IsReadText text script → script_of (written script) ≡ Ok script
written_reads text script r =
    let short : length (written script) ≤ 2 ^ 24 = omega (arith, ap (λ (t : List ℕ). length t) (written_is text script r.texts), written_short text, r.short) in
    whole_text (written script) short ∙ ap (fold with_text_line (Ok [])) (content_written text script r) ∙ r.folded

-- What is written of a script is read as the same script.
pub written_is_read : (script : Script) → IsScript script → script_of (written script) ≡ Ok script
written_is_read script is = written_reads is.text script (read_text is.text script is.is_read)

-- ---- the text, line after line
join_front : (k : ℕ) (x : List ℕ) (xs : List (List ℕ)) → join_with_byte 10 (replicate k [] ++ x ∷ xs) ≡ replicate k 10 ++ join_with_byte 10 (x ∷ xs)
join_front zero x xs = refl
join_front (suc zero) x xs = refl
join_front (suc (suc k)) x xs = ap (λ (ys : List ℕ). 10 ∷ ys) (join_front (suc k) x xs)

join_next : (x : List ℕ) (k : ℕ) (y : List ℕ) (ys : List (List ℕ)) → join_with_byte 10 (x ∷ (replicate k [] ++ y ∷ ys)) ≡ x ++ 10 ∷ join_with_byte 10 (replicate k [] ++ y ∷ ys)
join_next x zero y ys = refl
join_next x (suc k) y ys = refl

join_after : (n : ℕ) (l : ℕ × ScriptLine) (ls : Script) → AreRising (l.0 + 1) (texts_of ls) → join_with_byte 10 (written_lines n (l ∷ ls)) ≡ (replicate (l.0 - n) 10 ++ spelled l.1) ++ after_line l.0 ls
join_after n l [] rising = join_front (l.0 - n) (spelled l.1) [] ∙ sym (append-nil _)
join_after n l (m ∷ ms) rising =
    let next = join_next (spelled l.1) (m.0 - (l.0 + 1)) (spelled m.1) (written_lines (m.0 + 1) ms) in
    let rest = join_after (l.0 + 1) m ms rising.1 in
    let ends : suc (m.0 - (l.0 + 1)) ≡ m.0 - l.0 = omega (arith, rising.0) in
    join_front (l.0 - n) (spelled l.1) (written_lines (l.0 + 1) (m ∷ ms))
    ∙ ap (λ (t : List ℕ). replicate (l.0 - n) 10 ++ t) (next ∙ ap (λ (t : List ℕ). spelled l.1 ++ 10 ∷ t) rest
    ∙ ap (λ (k : ℕ). spelled l.1 ++ ((replicate k 10 ++ spelled m.1) ++ after_line m.0 ms)) ends)
    ∙ sym (append_assoc (replicate (l.0 - n) 10) (spelled l.1) _)

after_written : (script : Script) → AreRising 1 (texts_of script) → written script ≡ after_line 1 script
unfolding written
after_written [] rising = refl
after_written (l ∷ ls) rising = join_after 1 l ls rising.1

pub written_after : (script : Script) → IsScript script → written script ≡ after_line 1 script
written_after script is =
    let r = read_text is.text script is.is_read in
    after_written script (subst (AreRising 1) (sym r.texts) (content_rises 1 (lines is.text)).0)
