-- The laws of commands.
use Rattle.std.specs.Prelude.{◌≡◌, ℕ, ◌<◌, ◌≤◌, ◌^◌, List, ◌++◌, length, take, Some}
use Rattle.layout.specs.Bytes.{AreBytes}
use Rattle.layout.specs.Rows.{whole, short}
use Rattle.command_layout.specs.declared.way.Way.{Way}
use Rattle.command_layout.specs.declared.way.Way.TheVariants.{Up, Down}
use Rattle.command_layout.specs.Answers.{answer_to, value_in}
use Rattle.command_layout.specs.Table.{WellFormed}
use Rattle.command_layout.specs.CommandRows.{command_verdict}
use Rattle.command_layout.specs.Spelling.{IsCommand, command_of}
use Rattle.command_layout.specs.Values.{CommandValue}

-- A whole verdict says that the body of N bytes is there and is the command.
abbrev pub WholeIsCommand : Type 0
WholeIsCommand = (way : Way) (total n : ℕ) (v : CommandValue) (bytes : List ℕ) → AreBytes bytes → command_verdict way total bytes ≡ whole v n
    → (n ≡ total) × (total ≤ length bytes) × IsCommand way v (take total bytes)

-- And a command's verdict is whole, whatever follows.
abbrev pub CommandIsWhole : Type 0
CommandIsWhole = (way : Way) (v : CommandValue) (bytes more : List ℕ) → IsCommand way v bytes → command_verdict way (length bytes) (bytes ++ more) ≡ whole v (length bytes)

-- A verdict that has come stays, whatever follows.
abbrev pub CommandVerdictStays : Type 0
CommandVerdictStays = (way : Way) (total : ℕ) (bytes more : List ℕ) → (command_verdict way total bytes ≡ short → ⊥)
    → command_verdict way total (bytes ++ more) ≡ command_verdict way total bytes

-- No command begins another of the same way, and none says two values.
abbrev pub NoCommandBeginsAnother : Type 0
NoCommandBeginsAnother = (way : Way) (v w : CommandValue) (a b x y : List ℕ) → IsCommand way v a → IsCommand way w b → a ++ x ≡ b ++ y → (a ≡ b) × (v ≡ w)

-- The value in a command's body is the command's, and there is one in no other body.

abbrev pub CommandIsValue : Type 0
CommandIsValue = (way : Way) (v : CommandValue) (body : List ℕ) → IsCommand way v body → value_in way body ≡ Some v

abbrev pub ValueIsCommand : Type 0
ValueIsCommand = (way : Way) (v : CommandValue) (body : List ℕ) → AreBytes body → value_in way body ≡ Some v → IsCommand way v body

-- What answers a command of the way down may pass up.
abbrev pub AnswerIsWellFormed : Type 0
AnswerIsWellFormed = (own : ℕ) (text : List ℕ) (v : CommandValue) → WellFormed Down v → WellFormed Up (answer_to own text v)

-- With at most 1,024 bytes of text its body has at most 1,268 bytes.
abbrev pub AnswerFits : Type 0
AnswerFits = (own : ℕ) (text : List ℕ) (v : CommandValue) → length text ≤ 1024 → length (command_of (answer_to own text v)) ≤ 1268

-- And its bytes are those of a command.
abbrev pub AnswerIsCommand : Type 0
AnswerIsCommand = (own : ℕ) (text : List ℕ) (v : CommandValue) → WellFormed Down v → own < 10 ^ 15 → AreBytes text → length text ≤ 1024 → IsCommand Up (answer_to own text v) (command_of (answer_to own text v))
