-- How a script is written (this project's own): the fields of each line by the table, and an empty line for each line that was skipped.
use Rattle.std.specs.Prelude.{ℕ, ◌+◌, ◌-◌, List, [], ◌∷◌, ◌++◌, map, replicate}
use Rattle.std.specs.List.{join_with_byte}
use Rattle.trial_model.specs.Script.{Script}
use Rattle.trial_model.specs.declared.script.ScriptLine.{ScriptLine}
use Rattle.trial_model.specs.declared.script.ScriptLine.TheVariants as Line
use Rattle.journey_script.specs.declared.word.LineWord.{LineWord}
use Rattle.journey_script.specs.Table.{FieldKind, Said, kinds_of, spell_field, value_kind}
use Rattle.journey_script.specs.Words.{word_name}

-- what fields of these kinds say, one beside the other
abbrev pub Parts : List FieldKind → Type 0
Parts [] = Unit {0}
Parts (kind ∷ kinds) = Said kind × Parts kinds

abbrev pub spell_fields : (kinds : List FieldKind) → Parts kinds → List (List ℕ)
spell_fields [] parts = []
spell_fields (kind ∷ kinds) parts = spell_field kind parts.0 ∷ spell_fields kinds parts.1

-- the word and the fields of a line
abbrev pub words_of : ScriptLine → List (List ℕ)
words_of (Line.Device imei codec slots order period distance angle speed known) = word_name LineWord.Device
    ∷ spell_fields (kinds_of LineWord.Device) (imei, (codec, (slots, (order, (period, (distance, (angle, (speed, (known, tt)))))))))
words_of (Line.Setting imei s) = word_name LineWord.Io ∷ spell_fields (kinds_of LineWord.Io) (imei, (s.id, (s.width, (s.operand, (s.low, (s.high, (s.priority, tt)))))))
words_of (Line.Fix imei f) = word_name LineWord.Fix ∷ (spell_fields (kinds_of LineWord.Fix)
    (imei, (f.time, (f.gps.longitude, (f.gps.latitude, (f.gps.altitude, (f.gps.angle, (f.gps.satellites, (f.gps.speed, (f.odometer, tt))))))))) ++ map (spell_field value_kind) f.values.items)
words_of (Line.Round imei piece up down) = word_name LineWord.Round ∷ spell_fields (kinds_of LineWord.Round) (imei, (piece, (up, (down, tt))))
words_of (Line.Drain imei piece) = word_name LineWord.Drain ∷ spell_fields (kinds_of LineWord.Drain) (imei, (piece, tt))
words_of (Line.Late connection bytes) = word_name LineWord.Late ∷ spell_fields (kinds_of LineWord.Late) (connection, (bytes, tt))
words_of (Line.Close connection) = word_name LineWord.Close ∷ spell_fields (kinds_of LineWord.Close) (connection, tt)
words_of (Line.Power who) = word_name LineWord.Power ∷ spell_fields (kinds_of LineWord.Power) (who, tt)
words_of (Line.Fuse who calls tear) = word_name LineWord.Fuse ∷ spell_fields (kinds_of LineWord.Fuse) (who, (calls, (tear, tt)))

-- a line as it is written, with one space between two fields
unfoldable pub spelled : ScriptLine → List ℕ
spelled line = join_with_byte 32 (words_of line)

-- the lines as they are written from this number on, with an empty one for each that was skipped
abbrev pub written_lines : ℕ → Script → List (List ℕ)
written_lines number [] = []
written_lines number (line ∷ lines) = replicate (line.0 - number) [] ++ spelled line.1 ∷ written_lines (line.0 + 1) lines

-- the text: LF comes between two lines, and not after the last one
unfoldable pub written : Script → List ℕ
written script = join_with_byte 10 (written_lines 1 script)
