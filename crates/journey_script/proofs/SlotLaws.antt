-- What a trial and a drive need of a script's numbers: a device has 1 to 4,096 slots, and values without a fault fit their settings.
use Rattle.std.proofs.Common.{◌≡◌, ◌==◌, ◌<◌, ◌≤◌, ℕ, Bool, true, false, nat_lt, not, lit<, List, [], ◌∷◌, ◌++◌, length, Option, Some, None, Result, Ok, Err, refl, sym, subst, arith, if◌then◌else◌}
use Rattle.std.specs.List.{AllByRecursion, filter_map, fold}
use Rattle.std.proofs.lemmas.Bool.Decides.{nat_tests}
use Rattle.std.proofs.lemmas.List.{map_push}
use Rattle.acquisition.specs.Elements.{ValuesFit, width_of}
use Rattle.avl_values.specs.Width.{limit}
use Rattle.io_operands.specs.declared.setting.IoSetting.{IoSetting}
use Rattle.text_lines.specs.Lines.{content_lines}
use Rattle.trial_model.specs.Script.{Device, Script, device_on, devices_of, lines_of}
use Rattle.trial_model.specs.declared.script.ScriptLine.{ScriptLine}
use Rattle.trial_model.specs.declared.script.ScriptLine.TheVariants as Line
use Rattle.journey_script.specs.declared.fault.ScriptFault.{ScriptFault}
use Rattle.journey_script.specs.declared.fault.ScriptFault.TheVariants.{BadNumber, FieldCount, ValueCount, ValueTooWide}
use Rattle.journey_script.specs.declared.word.LineWord.{LineWord}
use Rattle.journey_script.specs.Grammar.{IsScript, Refusal, with_judged, with_line, with_text_line}
use Rattle.journey_script.specs.Later.{◌then◌, all_fit, later_fault, values_fault, when}
use Rattle.journey_script.specs.Lines.{◌>>=◌, Makes, first_of, fields_of, fields_after, fix_with, line_by, line_of, read_fields, read_values, rest_of, setting_with, worded_line}
use Rattle.journey_script.specs.Numbers.{number_within}
use Rattle.journey_script.specs.Table.{FieldKind, NumberField, Said, found_or, is_count_of, kinds_of, read_field}
use Rattle.journey_script.specs.Words.{line_word}
use Rattle.journey_script.proofs.FieldSpelling.{both, is_number}
use Rattle.journey_script.proofs.WrittenLemmas.{is_short}

-- a device has 1 to 4,096 slots
abbrev pub HasSlots : ScriptLine → Type 0
HasSlots (Line.Device imei codec slots order period distance angle speed known) = (1 ≤ slots) × (slots ≤ 4096)
HasSlots (Line.Setting who setting) = Unit {0}
HasSlots (Line.Fix who fix) = Unit {0}
HasSlots (Line.Round who piece up down) = Unit {0}
HasSlots (Line.Drain who piece) = Unit {0}
HasSlots (Line.Late connection bytes) = Unit {0}
HasSlots (Line.Close connection) = Unit {0}
HasSlots (Line.Power who) = Unit {0}
HasSlots (Line.Fuse who calls tear) = Unit {0}

-- this holds of whatever is made of fields that say something
abbrev MakesOnly : {A : Type 0} → (A → Type 0) → (kinds : List FieldKind) → Makes A kinds → Type 0
MakesOnly P [] make = P make
MakesOnly P (kind ∷ kinds) make = (field : List ℕ) (said : Said kind) → read_field kind field ≡ Ok said → MakesOnly P kinds (make said)

made_of : {A : Type 0} (P : A → Type 0) (kinds : List FieldKind) (make : Makes A kinds) (fields : List (List ℕ)) (x : A) → MakesOnly P kinds make → read_fields kinds make fields ≡ Ok x → P x
made_of P [] make fields x only h = let e : make ≡ x = cc in subst P e only
made_of P (kind ∷ kinds) make fields x only h = by (read_field kind (first_of fields)) refl h (λ said. made_of P kinds (make said) (rest_of fields) x)
  where
    by : (r : Result (Said kind) ScriptFault) → read_field kind (first_of fields) ≡ r → (r >>= (λ said. read_fields kinds (make said) (rest_of fields))) ≡ Ok x
        → ((said : Said kind) → MakesOnly P kinds (make said) → read_fields kinds (make said) (rest_of fields) ≡ Ok x → P x) → P x
    by (Err fault) e h rest = absurd (cc)
    by (Ok said) e h rest = rest said (only (first_of fields) said e) h

found : (o : Option ℕ) (n : ℕ) → found_or BadNumber o ≡ Ok n → o ≡ Some n
found None n h = absurd (cc)
found (Some m) n h = cc

slots_within : (field : List ℕ) (n : ℕ) → read_field (NumberField 1 4096) field ≡ Ok n → (1 ≤ n) × (n ≤ 4096)
slots_within field n h = let p = is_number 1 4096 field n (lit< tt) (found (number_within 1 4096 field) n h) in (p.least, p.most)

-- what a `fix` line's values leave
fix_made : (make : List ℕ → ScriptLine) (values : Result (List ℕ) ScriptFault) (line : ScriptLine) → ((vs : List ℕ) → HasSlots (make vs)) → (values >>= (λ vs. Ok (make vs))) ≡ Ok line → HasSlots line
fix_made make (Err fault) line only h = absurd (cc)
fix_made make (Ok vs) line only h = let e : make vs ≡ line = cc in subst HasSlots e (only vs)

fix_by : (make : Result (List ℕ → ScriptLine) ScriptFault) (values : Result (List ℕ) ScriptFault) (line : ScriptLine)
    → ((m : List ℕ → ScriptLine) → make ≡ Ok m → (vs : List ℕ) → HasSlots (m vs)) → (make >>= (λ m. values >>= (λ vs. Ok (m vs)))) ≡ Ok line → HasSlots line
fix_by (Err fault) values line only h = absurd (cc)
fix_by (Ok m) values line only h = fix_made m values line (only m refl) h

slots_by : (word : LineWord) (fields : List (List ℕ)) (line : ScriptLine) → line_by word fields ≡ Ok line → HasSlots line
unfolding line_by
slots_by LineWord.Device fields line h = made_of HasSlots (kinds_of LineWord.Device) Line.Device fields line (λ _ imei _ _ codec _ t slots e _ order _ _ period _ _ distance _ _ angle _ _ speed _ _ known _. slots_within t slots e) h
slots_by LineWord.Io fields line h = made_of HasSlots (kinds_of LineWord.Io) setting_with fields line (λ _ imei _ _ id _ _ width _ _ operand _ _ low _ _ high _ _ priority _. tt) h
slots_by LineWord.Fix fields line h = fix_by (read_fields (kinds_of LineWord.Fix) fix_with fields) (read_values (fields_after (kinds_of LineWord.Fix) fields)) line
    (λ m e. made_of (λ (make : List ℕ → ScriptLine). (vs : List ℕ) → HasSlots (make vs)) (kinds_of LineWord.Fix) fix_with fields m (λ _ imei _ _ time _ _ longitude _ _ latitude _ _ altitude _ _ angle _ _ satellites _ _ speed _ _ odometer _ vs. tt) e) h
slots_by LineWord.Round fields line h = made_of HasSlots (kinds_of LineWord.Round) Line.Round fields line (λ _ imei _ _ piece _ _ up _ _ down _. tt) h
slots_by LineWord.Drain fields line h = made_of HasSlots (kinds_of LineWord.Drain) Line.Drain fields line (λ _ imei _ _ piece _. tt) h
slots_by LineWord.Late fields line h = made_of HasSlots (kinds_of LineWord.Late) Line.Late fields line (λ _ connection _ _ bytes _. tt) h
slots_by LineWord.Close fields line h = made_of HasSlots (kinds_of LineWord.Close) Line.Close fields line (λ _ connection _. tt) h
slots_by LineWord.Power fields line h = made_of HasSlots (kinds_of LineWord.Power) Line.Power fields line (λ _ who _. tt) h
slots_by LineWord.Fuse fields line h = made_of HasSlots (kinds_of LineWord.Fuse) Line.Fuse fields line (λ _ who _ _ calls _ _ tear _. tt) h

slots_worded : (word : Option LineWord) (fields : List (List ℕ)) (line : ScriptLine) → worded_line word fields ≡ Ok line → HasSlots line
slots_worded None fields line h = absurd (cc)
slots_worded (Some word) fields line h = by (is_count_of word (length fields)) h
  where
    by : (b : Bool) → (if b then line_by word fields else Err FieldCount) ≡ Ok line → HasSlots line
    by true h = slots_by word fields line h
    by false h = absurd (cc)

slots_of_line : (text : List ℕ) (line : ScriptLine) → line_of text ≡ Ok line → HasSlots line
unfolding line_of
slots_of_line text line h = slots_worded (line_word (first_of (fields_of text))) (rest_of (fields_of text)) line h

-- ---- all lines of a script
abbrev Texts : Type 0
Texts = List (ℕ × List ℕ)

refuses : (all : Texts) (refusal : Refusal) (script : Script) → fold with_text_line (Err refusal) all ≡ Ok script → ⊥
refuses [] refusal script h = cc
refuses (t ∷ ts) refusal script h = refuses ts refusal script h

judged : (all : Texts) (before script : Script) (number : ℕ) (line : ScriptLine) (fault : Option ScriptFault) → fold with_text_line (with_judged before number line fault) all ≡ Ok script
    → fold with_text_line (Ok (before ++ (number, line) ∷ [])) all ≡ Ok script
judged all before script number line None h = h
judged all before script number line (Some fault) h = absurd (refuses all (record { line = number; kind = fault }) script h)

said : (all : Texts) (before script : Script) (number : ℕ) (text : List ℕ) (r : Result ScriptLine ScriptFault) → line_of text ≡ r → fold with_text_line (with_line before number r) all ≡ Ok script
    → (line : ScriptLine) × HasSlots line × (fold with_text_line (Ok (before ++ (number, line) ∷ [])) all ≡ Ok script)
unfolding with_line
said all before script number text (Err fault) is h = absurd (refuses all (record { line = number; kind = fault }) script h)
said all before script number text (Ok line) is h = (line, slots_of_line text line is, judged all before script number line (later_fault (lines_of before) line) h)

abbrev HaveSlots : List ScriptLine → Type 0
HaveSlots lines = AllByRecursion HasSlots lines

have_push : (lines : List ScriptLine) (line : ScriptLine) → HaveSlots lines → HasSlots line → HaveSlots (lines ++ line ∷ [])
have_push [] line h last = (last, tt)
have_push (l ∷ ls) line h last = (h.0, have_push ls line h.1 last)

slots_on : (all : Texts) (before script : Script) → HaveSlots (lines_of before) → fold with_text_line (Ok before) all ≡ Ok script → HaveSlots (lines_of script)
slots_on [] before script h is = let e : before ≡ script = cc in subst (λ (s : Script). HaveSlots (lines_of s)) e h
slots_on (t ∷ ts) before script h is =
    let p = said ts before script t.0 t.1 (line_of t.1) refl is in
    slots_on ts (before ++ (t.0, p.0) ∷ []) script (subst HaveSlots (sym (map_push (λ (l : ℕ × ScriptLine). l.1) before (t.0, p.0))) (have_push (lines_of before) p.0 h p.1)) p.2

devices_slots : (all lines : List ScriptLine) → HaveSlots lines → AllByRecursion (λ (d : Device). (1 ≤ d.slots) × (d.slots ≤ 4096)) (filter_map (device_on all) lines)
devices_slots all [] h = tt
devices_slots all (Line.Device imei codec slots order period distance angle speed known ∷ lines) h = (h.0, devices_slots all lines h.1)
devices_slots all (Line.Setting who setting ∷ lines) h = devices_slots all lines h.1
devices_slots all (Line.Fix who fix ∷ lines) h = devices_slots all lines h.1
devices_slots all (Line.Round who piece up down ∷ lines) h = devices_slots all lines h.1
devices_slots all (Line.Drain who piece ∷ lines) h = devices_slots all lines h.1
devices_slots all (Line.Late connection bytes ∷ lines) h = devices_slots all lines h.1
devices_slots all (Line.Close connection ∷ lines) h = devices_slots all lines h.1
devices_slots all (Line.Power who ∷ lines) h = devices_slots all lines h.1
devices_slots all (Line.Fuse who calls tear ∷ lines) h = devices_slots all lines h.1

-- each device of a script has 1 to 4,096 slots
pub slot_laws : (script : Script) → IsScript script → AllByRecursion (λ (d : Device). (1 ≤ d.slots) × (d.slots ≤ 4096)) (devices_of (lines_of script))
slot_laws script is =
    let p = is_short is.text script is.is_read in
    devices_slots (lines_of script) (lines_of script) (slots_on (content_lines is.text) [] script tt p.1)

-- ---- values without a fault fit
is_less : (a b : ℕ) → nat_lt a b ≡ true → a < b
is_less a b h = grind (arith, nat_tests)

is_same : (a b : ℕ) → (a == b) ≡ true → a ≡ b
is_same a b h = grind (arith, nat_tests)

zip_fits : (settings : List IoSetting) (values : List ℕ) → length values ≡ length settings → all_fit settings values ≡ true → ValuesFit settings values
zip_fits [] [] same h = tt
zip_fits [] (v ∷ vs) same h = absurd (omega (arith, same))
zip_fits (s ∷ ss) [] same h = absurd (omega (arith, same))
zip_fits (s ∷ ss) (v ∷ vs) same h =
    let p = both (nat_lt v (limit (width_of s))) (all_fit ss vs) h in
    (is_less v (limit (width_of s)) p.0, zip_fits ss vs (omega (arith, same)) p.1)

no_fault : (a b : Bool) → (when (not a) ValueCount then when (not b) ValueTooWide) ≡ None → (a ≡ true) × (b ≡ true)
no_fault true true h = (refl, refl)
no_fault true false h = absurd (cc)
no_fault false b h = absurd (cc)

pub values_fit : (settings : List IoSetting) (values : List ℕ) → values_fault settings values ≡ None → ValuesFit settings values
values_fit settings values h =
    let p = no_fault (length values == length settings) (all_fit settings values) h in
    zip_fits settings values (is_same (length values) (length settings) p.0) p.1
