-- The one spelling of a command (Teltonika, Data Sending Protocols: Codecs 12, 13, 14, 15).
use Rattle.std.specs.Prelude.{◌≡◌, ℕ, zero, suc, ◌+◌, ◌*◌, ◌/◌, ◌%◌, ◌<◌, ◌^◌, List, [], ◌∷◌, ◌++◌, length, Option, Some, None}
use Rattle.std.specs.Int.{to_be_bytes, w32}
use Rattle.layout.specs.Bytes.{AreBytes}
use Rattle.command_layout.specs.declared.way.Way.{Way}
use Rattle.command_layout.specs.Values.{CommandValue}
use Rattle.command_layout.specs.Table.{WellFormed}

-- a number's last two decimal digits, one per half byte
abbrev pub two_digits : ℕ → ℕ
two_digits n = n / 10 % 10 * 16 + n % 10

-- a number's last decimal digits in N bytes, the highest first
unfoldable pub digit_pairs : ℕ → ℕ → List ℕ
digit_pairs zero n = []
digit_pairs (suc k) n = two_digits (n / 100 ^ k) ∷ digit_pairs k n

-- the seconds in four bytes
abbrev pub time_bytes : Option ℕ → List ℕ
time_bytes (Some n) = to_be_bytes w32 n
time_bytes None = []

-- a zero digit and the 15 digits in eight bytes
abbrev pub imei_bytes : Option ℕ → List ℕ
imei_bytes (Some n) = digit_pairs 8 n
imei_bytes None = []

-- time, IMEI and text
abbrev pub content_of : CommandValue → List ℕ
content_of v = time_bytes v.time ++ (imei_bytes v.imei ++ v.text)

-- codec id, quantity 1, type, the content's size in four bytes, the content, and quantity 1 once more
abbrev pub command_of : CommandValue → List ℕ
command_of v = v.codec ∷ 1 ∷ v.kind ∷ (to_be_bytes w32 (length (content_of v)) ++ (content_of v ++ 1 ∷ []))

abbrev pub TimeFits : Option ℕ → Type 0
TimeFits (Some n) = n < 2 ^ 32
TimeFits None = Unit {0}

abbrev pub ImeiFits : Option ℕ → Type 0
ImeiFits (Some n) = n < 10 ^ 15
ImeiFits None = Unit {0}

-- each number fits its field
pub record Fits (v : CommandValue) : Type 0 where
  pub codec : v.codec < 256
  pub kind : v.kind < 256
  pub time : TimeFits v.time
  pub imei : ImeiFits v.imei
  pub text : AreBytes v.text
  pub size : length (content_of v) < 2 ^ 32

-- these bytes are the command of this value, which passes this way
pub record IsCommand (way : Way) (v : CommandValue) (bytes : List ℕ) : Type 0 where
  pub is : bytes ≡ command_of v
  pub well_formed : WellFormed way v
  pub fits : Fits v
