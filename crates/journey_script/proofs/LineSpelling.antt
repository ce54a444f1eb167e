-- A line has one spelling: what was read of it, written again.
use Rattle.std.proofs.Common.{◌≡◌, ◌==◌, ◌+◌, ◌-◌, ◌^◌, ◌<◌, ◌≤◌, ℕ, ℤ, pos, Bool, true, false, ◌&&◌, nat_le, List, [], ◌∷◌, ◌++◌, length, map, option_map, lit<, Option, Some, None, Result, Ok, Err, refl, sym, ap, subst, ◌∙◌, arith, if◌then◌else◌, codes}
use Rattle.std.specs.List.{AllByRecursion, join_with_byte, list_all}
use Rattle.std.specs.Str.{bytes_eq}
use Rattle.std.proofs.lemmas.Bool.{eqb-true}
use Rattle.std.proofs.lemmas.Bool.Decides.{nat_tests}
use Rattle.std.proofs.lemmas.List.Splits.{join_with_byte-slice_split}
use Rattle.std.proofs.lemmas.Slice.Eq.{bytes_eq-Decides}
use Rattle.std.proofs.lemmas.List.{append-nil}
use Rattle.avl_values.specs.declared.codec.Codec.{Codec}
use Rattle.avl_values.specs.declared.codec.Codec.TheVariants.{C8, C8E, C16}
use Rattle.avl_values.specs.declared.order.Order.{Order}
use Rattle.avl_values.specs.declared.order.Order.TheVariants.{Oldest, Newest}
use Rattle.io_operands.specs.declared.setting.Operand.{Operand}
use Rattle.medium_model.specs.declared.bench.Tear.{Tear}
use Rattle.avl_values.specs.Imei.{is_digit}
use Rattle.trial_model.specs.declared.script.ScriptLine.{ScriptLine}
use Rattle.trial_model.specs.declared.script.ScriptLine.TheVariants as Line
use Rattle.trial_model.specs.declared.script.Who.{Who}
use Rattle.journey_script.specs.declared.fault.ScriptFault.{ScriptFault}
use Rattle.journey_script.specs.declared.fault.ScriptFault.TheVariants.{BadChoice, BadImei, BadNumber, FieldCount}
use Rattle.journey_script.specs.declared.word.LineWord.{LineWord}
use Rattle.journey_script.specs.Lines.{counted_line, fix_with, setting_with, worded_line, Makes, fields_after, fields_of, first_of, line_by, line_of, read_fields, read_values, rest_of, ◌>>=◌}
use Rattle.journey_script.specs.Numbers.{imei_of, negative, number_within, signed_within, value_of}
use Rattle.journey_script.specs.Table.{CodecField, FieldKind, FlagField, ImeiField, LimitField, NumberField, OperandField, OrderField, Said, SignedField, TearField, WhoseField, is_count_of, kinds_of, made_or, read_field, spell_field, value_kind}
use Rattle.journey_script.specs.Words.{codec_name, codecs, flag_name, flags, line_word, line_words, named, operand_name, operands, order_name, orders, tear_name, tears, word_name}
use Rattle.journey_script.proofs.FieldLemmas.{fields_count}
use Rattle.journey_script.proofs.FieldSpelling.{IsNarrow, both, chosen, field_spelled, found, is_number, made, mapped, named_is}
use Rattle.journey_script.specs.Writing.{Parts, spell_fields, spelled, words_of}

-- ---- bytes
abbrev pub printable : List ℕ → Bool
printable t = list_all (nat_le 32) t

abbrev pub AllPrintable : List (List ℕ) → Type 0
AllPrintable fields = AllByRecursion (λ t. printable t ≡ true) fields

digit_printable : (x : ℕ) → is_digit x ≡ true → nat_le 32 x ≡ true
digit_printable x h = let p = both (nat_le 48 x) _ h in grind (arith, nat_tests)

digits_printable : (t : List ℕ) → list_all is_digit t ≡ true → printable t ≡ true
digits_printable [] h = refl
digits_printable (x ∷ xs) h = let p = both (is_digit x) _ h in let q = digits_printable xs p.1 in rw (digit_printable x p.0) q

codec_printable : (c : Codec) → printable (codec_name c) ≡ true
codec_printable C8 = refl
codec_printable C8E = refl
codec_printable C16 = refl

order_printable : (o : Order) → printable (order_name o) ≡ true
order_printable Oldest = refl
order_printable Newest = refl

flag_printable : (f : Bool) → printable (flag_name f) ≡ true
flag_printable true = refl
flag_printable false = refl

operand_printable : (o : Operand) → printable (operand_name o) ≡ true
operand_printable Operand.Exit = refl
operand_printable Operand.Entrance = refl
operand_printable Operand.Both = refl
operand_printable Operand.Hysteresis = refl
operand_printable Operand.Change = refl
operand_printable Operand.Monitoring = refl

tear_printable : (t : Tear) → printable (tear_name t) ≡ true
tear_printable Tear.Keep = refl
tear_printable Tear.New = refl
tear_printable Tear.Zero = refl
tear_printable Tear.AllOpen = refl
tear_printable Tear.Half = refl

word_printable : (w : LineWord) → printable (word_name w) ≡ true
word_printable LineWord.Device = refl
word_printable LineWord.Io = refl
word_printable LineWord.Fix = refl
word_printable LineWord.Round = refl
word_printable LineWord.Drain = refl
word_printable LineWord.Late = refl
word_printable LineWord.Close = refl
word_printable LineWord.Power = refl
word_printable LineWord.Fuse = refl

imei_printable : (t : List ℕ) (n : ℕ) → imei_of t ≡ Some n → printable t ≡ true
unfolding imei_of
imei_printable t n h = let p = chosen ((length t == 15) && list_all is_digit t) (value_of t) n h in digits_printable t (both (length t == 15) _ p.0).1

signed_printable : (limit : ℕ) (t : List ℕ) (z : ℤ) → limit < 2 ^ 63 → signed_within limit t ≡ Some z → printable t ≡ true
unfolding signed_within
signed_printable limit [] z small h = refl
signed_printable limit (x ∷ xs) z small h = by (x == 45) refl h
  where
    by : (b : Bool) → (x == 45) ≡ b → (if b then option_map negative (number_within 1 (limit + 1) xs) else option_map pos (number_within 0 limit (x ∷ xs))) ≡ Some z → printable (x ∷ xs) ≡ true
    by true e h =
        let p = mapped negative (number_within 1 (limit + 1) xs) z h in
        let minus : x ≡ 45 = eqb-true x 45 e in
        rw minus (digits_printable xs (is_number 1 (limit + 1) xs p.0 (omega arith) p.1).digits)
    by false e h =
        let p = mapped pos (number_within 0 limit (x ∷ xs)) z h in
        digits_printable (x ∷ xs) (is_number 0 limit (x ∷ xs) p.0 (omega arith) p.1).digits

whose_printable : (t : List ℕ) (w : Who) → read_field WhoseField t ≡ Ok w → printable t ≡ true
whose_printable t w h = by (bytes_eq t (codes "server")) refl h
  where
    by : (b : Bool) → bytes_eq t (codes "server") ≡ b → (if b then Ok Who.Server else made_or BadImei Who.Device (imei_of t)) ≡ Ok w → printable t ≡ true
    by true e h = let server : codes "server" ≡ t = sym ((bytes_eq-Decides t (codes "server")).0 e) in subst (λ (s : List ℕ). printable s ≡ true) server refl
    by false e h = let p = made BadImei Who.Device (imei_of t) w h in imei_printable t p.0 p.1

limit_printable : (t : List ℕ) (l : Option ℕ) → read_field LimitField t ≡ Ok l → printable t ≡ true
limit_printable t l h = by (bytes_eq t (codes "-")) refl h
  where
    by : (b : Bool) → bytes_eq t (codes "-") ≡ b → (if b then Ok None else made_or BadNumber (λ n. Some n) (number_within 0 (2 ^ 32 - 1) t)) ≡ Ok l → printable t ≡ true
    by true e h = let minus : codes "-" ≡ t = sym ((bytes_eq-Decides t (codes "-")).0 e) in subst (λ (s : List ℕ). printable s ≡ true) minus refl
    by false e h = let p = made BadNumber (λ (n : ℕ). Some n) (number_within 0 (2 ^ 32 - 1) t) l h in digits_printable t (is_number 0 (2 ^ 32 - 1) t p.0 (lit< tt) p.1).digits

named_printable : {A : Type 0} (name : A → List ℕ) (all : List A) (t : List ℕ) (x : A) → ((y : A) → printable (name y) ≡ true) → named name all t ≡ Some x → printable t ≡ true
named_printable name all t x each h = subst (λ (s : List ℕ). printable s ≡ true) (named_is name all t x h) (each x)

field_printable : (kind : FieldKind) → IsNarrow kind → (t : List ℕ) (said : Said kind) → read_field kind t ≡ Ok said → printable t ≡ true
field_printable ImeiField narrow t said h = imei_printable t said (found BadImei (imei_of t) said h)
field_printable WhoseField narrow t said h = whose_printable t said h
field_printable (NumberField low high) narrow t said h = digits_printable t (is_number low high t said narrow (found BadNumber (number_within low high t) said h)).digits
field_printable (SignedField limit) narrow t said h = signed_printable limit t said narrow (found BadNumber (signed_within limit t) said h)
field_printable LimitField narrow t said h = limit_printable t said h
field_printable CodecField narrow t said h = named_printable codec_name codecs t said codec_printable (found BadChoice (named codec_name codecs t) said h)
field_printable OrderField narrow t said h = named_printable order_name orders t said order_printable (found BadChoice (named order_name orders t) said h)
field_printable FlagField narrow t said h = named_printable flag_name flags t said flag_printable (found BadChoice (named flag_name flags t) said h)
field_printable OperandField narrow t said h = named_printable operand_name operands t said operand_printable (found BadChoice (named operand_name operands t) said h)
field_printable TearField narrow t said h = named_printable tear_name tears t said tear_printable (found BadChoice (named tear_name tears t) said h)

-- ---- all fields of a line
abbrev AreNarrow : List FieldKind → Type 0
AreNarrow [] = Unit {0}
AreNarrow (kind ∷ kinds) = IsNarrow kind × AreNarrow kinds

-- what is made of these parts
abbrev pub apply : {A : Type 0} → (kinds : List FieldKind) → Makes A kinds → Parts kinds → A
apply [] make parts = make
apply (kind ∷ kinds) make parts = apply kinds (make parts.0) parts.1

-- What was read of fields: their parts, which spell them.
record IsReadAll {A : Type 0} (kinds : List FieldKind) (make : Makes A kinds) (fields : List (List ℕ)) (a : A) : Type 0 where
  parts : Parts kinds
  makes : apply kinds make parts ≡ a
  spelled_as : spell_fields kinds parts ++ fields_after kinds fields ≡ fields
  print : AllPrintable (spell_fields kinds parts)

next_ok : {A B : Type 0} (r : Result A ScriptFault) (next : A → Result B ScriptFault) (b : B) → (r >>= next) ≡ Ok b → (a : A) × (r ≡ Ok a) × (next a ≡ Ok b)
next_ok (Ok a) next b h = (a, refl, h)
next_ok (Err fault) next b h = absurd (cc)

read_all : {A : Type 0} (kinds : List FieldKind) (make : Makes A kinds) (fields : List (List ℕ)) (a : A) → AreNarrow kinds → length kinds ≤ length fields → read_fields kinds make fields ≡ Ok a
    → IsReadAll kinds make fields a
read_all [] make fields a narrow few h = record { parts = tt; makes = cc; spelled_as = refl; print = tt }
read_all (kind ∷ kinds) make [] a narrow few h = absurd (omega arith)
read_all (kind ∷ kinds) make (f ∷ fs) a narrow few h =
    let p = next_ok (read_field kind f) (λ said. read_fields kinds (make said) fs) a h in
    let rest = read_all kinds (make p.0) fs a narrow.1 (omega arith) p.2 in
    let spelling = field_spelled kind narrow.0 f p.0 p.1 in
    record {
      parts = (p.0, rest.parts);
      makes = rest.makes;
      spelled_as = ap (λ (t : List ℕ). t ∷ (spell_fields kinds rest.parts ++ fields_after kinds fs)) spelling ∙ ap (λ (ts : List (List ℕ)). f ∷ ts) rest.spelled_as;
      print = (subst (λ (t : List ℕ). printable t ≡ true) (sym spelling) (field_printable kind narrow.0 f p.0 p.1), rest.print);
    }

none_after : (kinds : List FieldKind) (fields : List (List ℕ)) → length fields ≡ length kinds → fields_after kinds fields ≡ []
none_after [] [] e = refl
none_after [] (f ∷ fs) e = absurd (omega arith)
none_after (kind ∷ kinds) [] e = absurd (omega arith)
none_after (kind ∷ kinds) (f ∷ fs) e = none_after kinds fs (omega arith)

-- values
values_read : (fields : List (List ℕ)) (values : List ℕ) → read_values fields ≡ Ok values → (map (spell_field value_kind) values ≡ fields) × AllPrintable fields
unfolding read_values
values_read [] [] h = (refl, tt)
values_read [] (v ∷ vs) h = absurd (cc)
values_read (f ∷ fs) values h =
    let p = next_ok (read_field value_kind f) (λ value. read_values fs >>= (λ values. Ok (value ∷ values))) values h in
    let q = next_ok (read_values fs) (λ values. Ok (p.0 ∷ values)) values p.2 in
    let rest = values_read fs q.0 q.1 in
    let is : p.0 ∷ q.0 ≡ values = cc in
    let spelling = field_spelled value_kind (lit< tt) f p.0 p.1 in (
      ap (map (spell_field value_kind)) (sym is) ∙ ap (λ (t : List ℕ). t ∷ map (spell_field value_kind) q.0) spelling ∙ ap (λ (ts : List (List ℕ)). f ∷ ts) rest.0,
      (field_printable value_kind (lit< tt) f p.0 p.1, rest.1),
    )

-- What was read of a line: its words, which spell its text.
pub record IsReadLine (t : List ℕ) (line : ScriptLine) : Type 0 where
  pub words : words_of line ≡ fields_of t
  pub print : AllPrintable (fields_of t)

-- a line with this word and these fields
record IsWorded (word : LineWord) (fields : List (List ℕ)) (line : ScriptLine) : Type 0 where
  words : words_of line ≡ word_name word ∷ fields
  print : AllPrintable fields

counted : (word : LineWord) (fields : List (List ℕ)) (line : ScriptLine) → counted_line word fields ≡ Ok line → (is_count_of word (length fields) ≡ true) × (line_by word fields ≡ Ok line)
counted word fields line h = by (is_count_of word (length fields)) refl h
  where
    by : (b : Bool) → is_count_of word (length fields) ≡ b → (if b then line_by word fields else Err FieldCount) ≡ Ok line → (is_count_of word (length fields) ≡ true) × (line_by word fields ≡ Ok line)
    by true e h = (e, h)
    by false e h = absurd (cc)

-- a line whose fields are those of the table and no more
plain : (word : LineWord) (kinds : List FieldKind) (make : Makes ScriptLine kinds) (fields : List (List ℕ)) (line : ScriptLine) → AreNarrow kinds → length fields ≡ length kinds
    → ((parts : Parts kinds) → words_of (apply kinds make parts) ≡ word_name word ∷ spell_fields kinds parts) → read_fields kinds make fields ≡ Ok line → IsWorded word fields line
plain word kinds make fields line narrow count spells h =
    let r = read_all kinds make fields line narrow (omega (arith, count)) h in
    let all : spell_fields kinds r.parts ≡ fields = sym (append-nil (spell_fields kinds r.parts)) ∙ ap (λ (ts : List (List ℕ)). spell_fields kinds r.parts ++ ts) (sym (none_after kinds fields count)) ∙ r.spelled_as in
    record {
      words = ap words_of (sym r.makes) ∙ spells r.parts ∙ ap (λ (ts : List (List ℕ)). word_name word ∷ ts) all;
      print = subst AllPrintable all r.print;
    }

all_print : (a b : List (List ℕ)) → AllPrintable a → AllPrintable b → AllPrintable (a ++ b)
all_print [] b pa pb = pb
all_print (x ∷ xs) b pa pb = (pa.0, all_print xs b pa.1 pb)

fix_worded : (fields : List (List ℕ)) (line : ScriptLine) → length (kinds_of LineWord.Fix) ≤ length fields → line_by LineWord.Fix fields ≡ Ok line → IsWorded LineWord.Fix fields line
unfolding line_by
fix_worded fields line count h =
    let kinds = kinds_of LineWord.Fix in
    let p = next_ok (read_fields kinds fix_with fields) (λ make. read_values (fields_after kinds fields) >>= (λ values. Ok (make values))) line h in
    let q = next_ok (read_values (fields_after kinds fields)) (λ values. Ok (p.0 values)) line p.2 in
    let r = read_all kinds fix_with fields p.0 (tt, (lit< tt, (lit< tt, (lit< tt, (lit< tt, (lit< tt, (lit< tt, (lit< tt, (lit< tt, tt))))))))) count p.1 in
    let values = values_read (fields_after kinds fields) q.0 q.1 in
    let is : p.0 q.0 ≡ line = cc in
    let made : apply kinds fix_with r.parts q.0 ≡ line = ap (λ (make : List ℕ → ScriptLine). make q.0) r.makes ∙ is in
    let all : spell_fields kinds r.parts ++ map (spell_field value_kind) q.0 ≡ fields = ap (λ (ts : List (List ℕ)). spell_fields kinds r.parts ++ ts) values.0 ∙ r.spelled_as in
    record {
      words = ap words_of (sym made) ∙ ap (λ (ts : List (List ℕ)). word_name LineWord.Fix ∷ ts) all;
      print = subst AllPrintable r.spelled_as (all_print (spell_fields kinds r.parts) (fields_after kinds fields) r.print values.1);
    }

worded : (word : LineWord) (fields : List (List ℕ)) (line : ScriptLine) → is_count_of word (length fields) ≡ true → line_by word fields ≡ Ok line → IsWorded word fields line
unfolding line_by
worded LineWord.Device fields line count h = plain LineWord.Device (kinds_of LineWord.Device) Line.Device fields line (tt, (tt, (lit< tt, (tt, (lit< tt, (lit< tt, (lit< tt, (lit< tt, (tt, tt))))))))) (eqb-true (length fields) 9 count) (λ parts. refl) h
worded LineWord.Io fields line count h = plain LineWord.Io (kinds_of LineWord.Io) setting_with fields line (tt, (lit< tt, (lit< tt, (tt, (lit< tt, (lit< tt, (lit< tt, tt))))))) (eqb-true (length fields) 7 count) (λ parts. refl) h
worded LineWord.Fix fields line count h = let few : 9 ≤ length fields = grind (arith, nat_tests) in fix_worded fields line few h
worded LineWord.Round fields line count h = plain LineWord.Round (kinds_of LineWord.Round) Line.Round fields line (tt, (lit< tt, (tt, (tt, tt)))) (eqb-true (length fields) 4 count) (λ parts. refl) h
worded LineWord.Drain fields line count h = plain LineWord.Drain (kinds_of LineWord.Drain) Line.Drain fields line (tt, (lit< tt, tt)) (eqb-true (length fields) 2 count) (λ parts. refl) h
worded LineWord.Late fields line count h = plain LineWord.Late (kinds_of LineWord.Late) Line.Late fields line (lit< tt, (tt, tt)) (eqb-true (length fields) 2 count) (λ parts. refl) h
worded LineWord.Close fields line count h = plain LineWord.Close (kinds_of LineWord.Close) Line.Close fields line (lit< tt, tt) (eqb-true (length fields) 1 count) (λ parts. refl) h
worded LineWord.Power fields line count h = plain LineWord.Power (kinds_of LineWord.Power) Line.Power fields line (tt, tt) (eqb-true (length fields) 1 count) (λ parts. refl) h
worded LineWord.Fuse fields line count h = plain LineWord.Fuse (kinds_of LineWord.Fuse) Line.Fuse fields line (tt, (lit< tt, (tt, tt))) (eqb-true (length fields) 3 count) (λ parts. refl) h

-- the word of a line that says something
word_found : (word : Option LineWord) (fields : List (List ℕ)) (line : ScriptLine) → worded_line word fields ≡ Ok line → (w : LineWord) × (word ≡ Some w) × (counted_line w fields ≡ Ok line)
word_found None fields line h = absurd (cc)
word_found (Some w) fields line h = (w, refl, h)

some_field : (t : List ℕ) (fields : List (List ℕ)) → fields_of t ≡ fields → first_of fields ∷ rest_of fields ≡ fields
some_field t [] e = absurd (omega (arith, fields_count t, ap (λ (ts : List (List ℕ)). length ts) e))
some_field t (f ∷ fs) e = refl

pub read_words : (t : List ℕ) (line : ScriptLine) → line_of t ≡ Ok line → IsReadLine t line
unfolding line_of line_word
read_words t line h =
    let fields = fields_of t in
    let p = word_found (line_word (first_of fields)) (rest_of fields) line h in
    let c = counted p.0 (rest_of fields) line p.2 in
    let w = worded p.0 (rest_of fields) line c.0 c.1 in
    let name : word_name p.0 ≡ first_of fields = named_is word_name line_words (first_of fields) p.0 p.1 in
    let all : first_of fields ∷ rest_of fields ≡ fields = some_field t fields refl in
    record {
      words = w.words ∙ ap (λ (x : List ℕ). x ∷ rest_of fields) name ∙ all;
      print = subst AllPrintable all (subst (λ (x : List ℕ). printable x ≡ true) name (word_printable p.0), w.print);
    }

-- A line has one spelling.
pub one_spelling : (t : List ℕ) (line : ScriptLine) → line_of t ≡ Ok line → spelled line ≡ t
unfolding spelled
one_spelling t line h = ap (join_with_byte 32) (read_words t line h).words ∙ join_with_byte-slice_split 32 t
