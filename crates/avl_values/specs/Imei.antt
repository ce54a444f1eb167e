-- An IMEI is a number below 10^15, written as 15 decimal digits.
use Rattle.std.specs.Prelude.{ℕ, zero, suc, ◌+◌, ◌/◌, ◌%◌, ◌&&◌, nat_le, Bool, List, [], ◌∷◌, ◌++◌}

-- a number's last decimal digits in N places, as ASCII text
unfoldable pub decimal_places : ℕ → ℕ → List ℕ
decimal_places zero n = []
decimal_places (suc places) n = decimal_places places (n / 10) ++ (48 + n % 10) ∷ []

-- the 15 digits of an IMEI
abbrev pub imei_text : ℕ → List ℕ
imei_text imei = decimal_places 15 imei

-- `0` to `9`
abbrev pub is_digit : ℕ → Bool
is_digit byte = nat_le 48 byte && nat_le byte 57
