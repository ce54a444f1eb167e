-- What a line of a script says, or the first fault that it has by itself: the word, the number of fields, and the fields from left to right.
use Rattle.std.specs.Prelude.{ℕ, ◌==◌, List, [], ◌∷◌, length, Option, Some, None, Result, Ok, Err, if◌then◌else◌}
use Rattle.std.specs.List.{slice_split}
use Rattle.trial_model.specs.declared.script.ScriptLine.{ScriptLine}
use Rattle.trial_model.specs.declared.script.ScriptLine.TheVariants as Line
use Rattle.journey_script.specs.declared.fault.ScriptFault.{ScriptFault}
use Rattle.journey_script.specs.declared.fault.ScriptFault.TheVariants.{FieldCount, UnknownWord}
use Rattle.journey_script.specs.declared.word.LineWord.{LineWord}
use Rattle.journey_script.specs.Table.{FieldKind, Said, is_count_of, kinds_of, read_field, value_kind}
use Rattle.journey_script.specs.Words.{line_word}

infixl 10 ◌>>=◌
-- a step that may have a fault, and then the next
abbrev pub ◌>>=◌ : {A B : Type 0} → Result A ScriptFault → (A → Result B ScriptFault) → Result B ScriptFault
(Ok x) >>= next = next x
(Err fault) >>= next = Err fault

-- a line's fields, with one space between two
abbrev pub fields_of : List ℕ → List (List ℕ)
fields_of line = slice_split (λ b. b == 32) line

-- the first of some fields, and the others
abbrev pub first_of : List (List ℕ) → List ℕ
first_of [] = []
first_of (field ∷ fields) = field

abbrev pub rest_of : List (List ℕ) → List (List ℕ)
rest_of [] = []
rest_of (field ∷ fields) = fields

-- a function of what fields of these kinds say
abbrev pub Makes : Type 0 → List FieldKind → Type 0
Makes A [] = A
Makes A (kind ∷ kinds) = Said kind → Makes A kinds

-- what is made of fields of these kinds, or the fault of the first that has one
abbrev pub read_fields : {A : Type 0} → (kinds : List FieldKind) → Makes A kinds → List (List ℕ) → Result A ScriptFault
read_fields [] make fields = Ok make
read_fields (kind ∷ kinds) make fields = read_field kind (first_of fields) >>= (λ said. read_fields kinds (make said) (rest_of fields))

-- the fields after those of these kinds
abbrev pub fields_after : List FieldKind → List (List ℕ) → List (List ℕ)
fields_after [] fields = fields
fields_after (kind ∷ kinds) fields = fields_after kinds (rest_of fields)

-- the further values of a `fix` line
unfoldable pub read_values : List (List ℕ) → Result (List ℕ) ScriptFault
read_values [] = Ok []
read_values (field ∷ fields) = read_field value_kind field >>= (λ value. read_values fields >>= (λ values. Ok (value ∷ values)))

-- a `fix` line, but for its values
abbrev pub fix_with : Makes (List ℕ → ScriptLine) (kinds_of LineWord.Fix)
fix_with imei time longitude latitude altitude angle satellites speed odometer values = Line.Fix imei (record {
  time = time;
  gps = record { longitude = longitude; latitude = latitude; altitude = altitude; angle = angle; satellites = satellites; speed = speed };
  odometer = odometer;
  values = record { items = values };
})

abbrev pub setting_with : Makes ScriptLine (kinds_of LineWord.Io)
setting_with imei id width operand low high priority =
    Line.Setting imei (record { id = id; width = width; operand = operand; low = low; high = high; priority = priority })

-- what the fields after a word say
unfoldable pub line_by : LineWord → List (List ℕ) → Result ScriptLine ScriptFault
line_by LineWord.Device fields = read_fields (kinds_of LineWord.Device) Line.Device fields
line_by LineWord.Io fields = read_fields (kinds_of LineWord.Io) setting_with fields
line_by LineWord.Fix fields = read_fields (kinds_of LineWord.Fix) fix_with fields
    >>= (λ make. read_values (fields_after (kinds_of LineWord.Fix) fields) >>= (λ values. Ok (make values)))
line_by LineWord.Round fields = read_fields (kinds_of LineWord.Round) Line.Round fields
line_by LineWord.Drain fields = read_fields (kinds_of LineWord.Drain) Line.Drain fields
line_by LineWord.Late fields = read_fields (kinds_of LineWord.Late) Line.Late fields
line_by LineWord.Close fields = read_fields (kinds_of LineWord.Close) Line.Close fields
line_by LineWord.Power fields = read_fields (kinds_of LineWord.Power) Line.Power fields
line_by LineWord.Fuse fields = read_fields (kinds_of LineWord.Fuse) Line.Fuse fields

-- with the right number of fields
abbrev pub counted_line : LineWord → List (List ℕ) → Result ScriptLine ScriptFault
counted_line word fields = if is_count_of word (length fields) then line_by word fields else Err FieldCount

abbrev pub worded_line : Option LineWord → List (List ℕ) → Result ScriptLine ScriptFault
worded_line None fields = Err UnknownWord
worded_line (Some word) fields = counted_line word fields

-- what a line says
unfoldable pub line_of : List ℕ → Result ScriptLine ScriptFault
line_of text = worded_line (line_word (first_of (fields_of text))) (rest_of (fields_of text))
