-- What is spelled of a line is read as the same.
use Rattle.std.proofs.Common.{◌≡◌, ◌==◌, ◌<◌, ◌≤◌, ℕ, zero, suc, Bool, true, false, nat_le, List, [], ◌∷◌, ◌++◌, map, length, get_or, Result, Ok, Err, refl, ap, ◌∙◌, arith, if◌then◌else◌}
use Rattle.std.specs.List.{All, AllByRecursion, join_with_byte, slice_split}
use Rattle.std.proofs.lemmas.Bool.Decides.{nat_tests}
use Rattle.std.proofs.lemmas.List.Splits.{slice_split_at, slice_split_none}
use Rattle.text_lines.specs.Lines.{is_skipped}
use Rattle.trial_model.specs.declared.script.ScriptLine.{ScriptLine}
use Rattle.trial_model.specs.declared.script.ScriptLine.TheVariants as Line
use Rattle.journey_script.specs.declared.fault.ScriptFault.{ScriptFault}
use Rattle.journey_script.specs.declared.fault.ScriptFault.TheVariants.{FieldCount}
use Rattle.journey_script.specs.declared.word.LineWord.{LineWord}
use Rattle.journey_script.specs.Lines.{Makes, fields_of, first_of, fix_with, line_by, line_of, read_fields, read_values, rest_of, setting_with, worded_line, ◌>>=◌}
use Rattle.journey_script.specs.Table.{FieldKind, Said, is_count_of, kinds_of, spell_field, value_kind}
use Rattle.journey_script.specs.Words.{line_word}
use Rattle.journey_script.specs.Writing.{Parts, spell_fields, spelled, words_of}
use Rattle.journey_script.proofs.FieldReading.{IsSaid, field_read, field_solid, solid}
use Rattle.journey_script.proofs.FieldSpelling.{both}
use Rattle.journey_script.proofs.LineSpelling.{apply}

-- ---- pieces that are joined and cut again
-- none has this byte
abbrev pub AllLack : ℕ → List (List ℕ) → Type 0
AllLack c parts = AllByRecursion (λ x. All (λ b. (b == c) ≡ false) x) parts

pub cut_joined : (c : ℕ) (x : List ℕ) (xs : List (List ℕ)) → AllLack c (x ∷ xs) → slice_split (λ b. b == c) (join_with_byte c (x ∷ xs)) ≡ x ∷ xs
cut_joined c x [] lack = slice_split_none (λ b. b == c) x lack.0
cut_joined c x (y ∷ ys) lack =
    let same : (c == c) ≡ true = grind (arith, nat_tests) in
    slice_split_at (λ b. b == c) x c (join_with_byte c (y ∷ ys)) lack.0 same ∙ ap (λ (zs : List (List ℕ)). x ∷ zs) (cut_joined c y ys lack.1)

no_space : (b : ℕ) → nat_le 33 b ≡ true → (b == 32) ≡ false
no_space b h = grind (arith, nat_tests)

no_spaces : (x : List ℕ) → solid x ≡ true → (k d : ℕ) → k < length x → (get_or x k d == 32) ≡ false
no_spaces [] h k d below = absurd (omega arith)
no_spaces (b ∷ bs) h zero d below = no_space b (both (nat_le 33 b) _ h).0
no_spaces (b ∷ bs) h (suc k) d below = no_spaces bs (both (nat_le 33 b) _ h).1 k d (omega arith)

abbrev AllSolid : List (List ℕ) → Type 0
AllSolid words = AllByRecursion (λ x. solid x ≡ true) words

lack_spaces : (words : List (List ℕ)) → AllSolid words → AllLack 32 words
lack_spaces [] h = tt
lack_spaces (x ∷ xs) h = (no_spaces x h.0, lack_spaces xs h.1)

-- ---- fields
abbrev pub AreSaid : (kinds : List FieldKind) → Parts kinds → Type 0
AreSaid [] parts = Unit {0}
AreSaid (kind ∷ kinds) parts = IsSaid kind parts.0 × AreSaid kinds parts.1

fields_read : {A : Type 0} (kinds : List FieldKind) (make : Makes A kinds) (parts : Parts kinds) (more : List (List ℕ)) → AreSaid kinds parts
    → read_fields kinds make (spell_fields kinds parts ++ more) ≡ Ok (apply kinds make parts)
fields_read [] make parts more said = refl
fields_read {A} (kind ∷ kinds) make parts more said =
    ap (λ (r : Result (Said kind) ScriptFault). r >>= (λ said. read_fields kinds (make said) (spell_fields kinds parts.1 ++ more))) (field_read kind parts.0 said.0)
    ∙ fields_read kinds (make parts.0) parts.1 more said.1

fields_solid : (kinds : List FieldKind) (parts : Parts kinds) (more : List (List ℕ)) → AreSaid kinds parts → AllSolid more → AllSolid (spell_fields kinds parts ++ more)
fields_solid [] parts more said rest = rest
fields_solid (kind ∷ kinds) parts more said rest = (field_solid kind parts.0 said.0, fields_solid kinds parts.1 more said.1 rest)

abbrev pub AreValues : List ℕ → Type 0
AreValues values = AllByRecursion (λ v. IsSaid value_kind v) values

values_read : (values : List ℕ) → AreValues values → read_values (map (spell_field value_kind) values) ≡ Ok values
unfolding read_values
values_read [] said = refl
values_read (v ∷ vs) said =
    ap (λ (r : Result ℕ ScriptFault). r >>= (λ value. read_values (map (spell_field value_kind) vs) >>= (λ values. Ok (value ∷ values)))) (field_read value_kind v said.0)
    ∙ ap (λ (r : Result (List ℕ) ScriptFault). r >>= (λ values. Ok (v ∷ values))) (values_read vs said.1)

values_solid : (values : List ℕ) → AreValues values → AllSolid (map (spell_field value_kind) values)
values_solid [] said = tt
values_solid (v ∷ vs) said = (field_solid value_kind v said.0, values_solid vs said.1)

-- ---- lines
-- its fields are in their ranges
abbrev pub IsWritable : ScriptLine → Type 0
IsWritable (Line.Device imei codec slots order period distance angle speed known) =
    AreSaid (kinds_of LineWord.Device) (imei, (codec, (slots, (order, (period, (distance, (angle, (speed, (known, tt)))))))))
IsWritable (Line.Setting imei s) = AreSaid (kinds_of LineWord.Io) (imei, (s.id, (s.width, (s.operand, (s.low, (s.high, (s.priority, tt)))))))
IsWritable (Line.Fix imei f) =
    AreSaid (kinds_of LineWord.Fix) (imei, (f.time, (f.gps.longitude, (f.gps.latitude, (f.gps.altitude, (f.gps.angle, (f.gps.satellites, (f.gps.speed, (f.odometer, tt)))))))))
    × AreValues f.values.items
IsWritable (Line.Round imei piece up down) = AreSaid (kinds_of LineWord.Round) (imei, (piece, (up, (down, tt))))
IsWritable (Line.Drain imei piece) = AreSaid (kinds_of LineWord.Drain) (imei, (piece, tt))
IsWritable (Line.Late connection bytes) = AreSaid (kinds_of LineWord.Late) (connection, (bytes, tt))
IsWritable (Line.Close connection) = AreSaid (kinds_of LineWord.Close) (connection, tt)
IsWritable (Line.Power who) = AreSaid (kinds_of LineWord.Power) (who, tt)
IsWritable (Line.Fuse who calls tear) = AreSaid (kinds_of LineWord.Fuse) (who, (calls, (tear, tt)))

-- its words
abbrev WordsRead : ScriptLine → Type 0
WordsRead line = worded_line (line_word (first_of (words_of line))) (rest_of (words_of line)) ≡ Ok line

nine_fields : (n : ℕ) → 9 ≤ n → is_count_of LineWord.Fix n ≡ true
nine_fields n h = grind (arith, nat_tests)

words_read : (line : ScriptLine) → IsWritable line → WordsRead line
unfolding line_word line_by
words_read (Line.Device imei codec slots order period distance angle speed known) h =
    fields_read (kinds_of LineWord.Device) Line.Device (imei, (codec, (slots, (order, (period, (distance, (angle, (speed, (known, tt))))))))) [] h
words_read (Line.Setting imei s) h = fields_read (kinds_of LineWord.Io) setting_with (imei, (s.id, (s.width, (s.operand, (s.low, (s.high, (s.priority, tt))))))) [] h
words_read (Line.Fix imei f) h =
    let parts : Parts (kinds_of LineWord.Fix) = (imei, (f.time, (f.gps.longitude, (f.gps.latitude, (f.gps.altitude, (f.gps.angle, (f.gps.satellites, (f.gps.speed, (f.odometer, tt))))))))) in
    let values = map (spell_field value_kind) f.values.items in
    let fields = spell_fields (kinds_of LineWord.Fix) parts ++ values in
    ap (λ (b : Bool). if b then line_by LineWord.Fix fields else Err FieldCount) (nine_fields (length fields) (omega arith))
    ∙ ap (λ (r : Result (List ℕ → ScriptLine) ScriptFault). r >>= (λ make. read_values values >>= (λ values. Ok (make values)))) (fields_read (kinds_of LineWord.Fix) fix_with parts values h.0)
    ∙ ap (λ (r : Result (List ℕ) ScriptFault). r >>= (λ values. Ok (apply (kinds_of LineWord.Fix) fix_with parts values))) (values_read f.values.items h.1)
words_read (Line.Round imei piece up down) h = fields_read (kinds_of LineWord.Round) Line.Round (imei, (piece, (up, (down, tt)))) [] h
words_read (Line.Drain imei piece) h = fields_read (kinds_of LineWord.Drain) Line.Drain (imei, (piece, tt)) [] h
words_read (Line.Late connection bytes) h = fields_read (kinds_of LineWord.Late) Line.Late (connection, (bytes, tt)) [] h
words_read (Line.Close connection) h = fields_read (kinds_of LineWord.Close) Line.Close (connection, tt) [] h
words_read (Line.Power who) h = fields_read (kinds_of LineWord.Power) Line.Power (who, tt) [] h
words_read (Line.Fuse who calls tear) h = fields_read (kinds_of LineWord.Fuse) Line.Fuse (who, (calls, (tear, tt))) [] h

words_solid : (line : ScriptLine) → IsWritable line → AllSolid (words_of line)
words_solid (Line.Device imei codec slots order period distance angle speed known) h =
    (refl, fields_solid (kinds_of LineWord.Device) (imei, (codec, (slots, (order, (period, (distance, (angle, (speed, (known, tt))))))))) [] h tt)
words_solid (Line.Setting imei s) h = (refl, fields_solid (kinds_of LineWord.Io) (imei, (s.id, (s.width, (s.operand, (s.low, (s.high, (s.priority, tt))))))) [] h tt)
words_solid (Line.Fix imei f) h =
    let parts : Parts (kinds_of LineWord.Fix) = (imei, (f.time, (f.gps.longitude, (f.gps.latitude, (f.gps.altitude, (f.gps.angle, (f.gps.satellites, (f.gps.speed, (f.odometer, tt))))))))) in
    (refl, fields_solid (kinds_of LineWord.Fix) parts (map (spell_field value_kind) f.values.items) h.0 (values_solid f.values.items h.1))
words_solid (Line.Round imei piece up down) h = (refl, fields_solid (kinds_of LineWord.Round) (imei, (piece, (up, (down, tt)))) [] h tt)
words_solid (Line.Drain imei piece) h = (refl, fields_solid (kinds_of LineWord.Drain) (imei, (piece, tt)) [] h tt)
words_solid (Line.Late connection bytes) h = (refl, fields_solid (kinds_of LineWord.Late) (connection, (bytes, tt)) [] h tt)
words_solid (Line.Close connection) h = (refl, fields_solid (kinds_of LineWord.Close) (connection, tt) [] h tt)
words_solid (Line.Power who) h = (refl, fields_solid (kinds_of LineWord.Power) (who, tt) [] h tt)
words_solid (Line.Fuse who calls tear) h = (refl, fields_solid (kinds_of LineWord.Fuse) (who, (calls, (tear, tt))) [] h tt)

pub first_and_rest : (line : ScriptLine) → first_of (words_of line) ∷ rest_of (words_of line) ≡ words_of line
first_and_rest (Line.Device imei codec slots order period distance angle speed known) = refl
first_and_rest (Line.Setting imei s) = refl
first_and_rest (Line.Fix imei f) = refl
first_and_rest (Line.Round imei piece up down) = refl
first_and_rest (Line.Drain imei piece) = refl
first_and_rest (Line.Late connection bytes) = refl
first_and_rest (Line.Close connection) = refl
first_and_rest (Line.Power who) = refl
first_and_rest (Line.Fuse who calls tear) = refl

cut_words : (words : List (List ℕ)) → first_of words ∷ rest_of words ≡ words → AllSolid words → fields_of (join_with_byte 32 words) ≡ words
cut_words [] e h = absurd (cc)
cut_words (x ∷ xs) e h = cut_joined 32 x xs (lack_spaces (x ∷ xs) h)

-- A line that is spelled is read as the same line.
pub line_read : (line : ScriptLine) → IsWritable line → line_of (spelled line) ≡ Ok line
unfolding line_of spelled
line_read line h =
    ap (λ (fields : List (List ℕ)). worded_line (line_word (first_of fields)) (rest_of fields)) (cut_words (words_of line) (first_and_rest line) (words_solid line h)) ∙ words_read line h

-- It isn't skipped.
pub line_kept : (line : ScriptLine) → is_skipped (spelled line) ≡ false
unfolding spelled
line_kept (Line.Device imei codec slots order period distance angle speed known) = refl
line_kept (Line.Setting imei s) = refl
line_kept (Line.Fix imei f) = refl
line_kept (Line.Round imei piece up down) = refl
line_kept (Line.Drain imei piece) = refl
line_kept (Line.Late connection bytes) = refl
line_kept (Line.Close connection) = refl
line_kept (Line.Power who) = refl
line_kept (Line.Fuse who calls tear) = refl
