-- A text that is written piece by piece.
use Rattle.std.specs.Prelude.{ℕ, ◌-◌, List, [], ◌∷◌, ◌++◌, replicate, decimal}
use Rattle.std.specs.Fmt.{signed_decimal}
use Rattle.avl_values.specs.declared.gps.Gps.{Gps}
use Rattle.trial_model.specs.Script.{Script}
use Rattle.journey_script.specs.Writing.{spelled}

-- further fields, each after a space
abbrev pub after_words : List (List ℕ) → List ℕ
after_words [] = []
after_words (word ∷ words) = 32 ∷ (word ++ after_words words)

-- four fields of a `device` line, and six of a `fix` line, each after a space
abbrev pub limits_text : (period distance angle speed : ℕ) → List ℕ
limits_text period distance angle speed = 32 ∷ (decimal period ++ (32 ∷ (decimal distance ++ (32 ∷ (decimal angle ++ (32 ∷ decimal speed))))))

abbrev pub place_text : Gps → List ℕ
place_text gps = 32 ∷ (signed_decimal gps.longitude ++ (32 ∷ (signed_decimal gps.latitude ++ (32 ∷ signed_decimal gps.altitude))))

abbrev pub motion_text : Gps → List ℕ
motion_text gps = 32 ∷ (decimal gps.angle ++ (32 ∷ (decimal gps.satellites ++ (32 ∷ decimal gps.speed))))

-- lines, each after as many LF as its number is above that of the line before it
abbrev pub after_line : ℕ → Script → List ℕ
after_line number [] = []
after_line number (line ∷ lines) = (replicate (line.0 - number) 10 ++ spelled line.1) ++ after_line line.0 lines
