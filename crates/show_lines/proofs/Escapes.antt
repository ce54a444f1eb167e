-- Texts that JSON writes as they are.
use Rattle.std.proofs.Common.{◌≡◌, ◌≢◌, ◌==◌, ◌&&◌, Bool, true, not, nat_le, length, ◌<◌, ◌≤◌, ◌+◌, ◌/◌, ◌%◌, ◌∙◌, ℕ, zero, suc, List, [], ◌∷◌, ◌++◌, arith, ap, ne_eqb, le-ltb, refl, nat_lt, false}
use Rattle.std.proofs.lemmas.Str.Ascii.{IsAscii-nil, IsAscii-push}
use Rattle.std.proofs.lemmas.Bool.Decides.{nat_tests}
use Rattle.std.specs.List.{list_all, slice_index}
use Rattle.std.specs.Str.{IsAscii}
use Rattle.avl_values.specs.FaultKind.{name_of}
use Rattle.avl_values.specs.Imei.{decimal_places, imei_text}
use Rattle.avl_values.specs.declared.fault.FaultKind.{FaultKind}
use Rattle.avl_values.specs.declared.fault.FaultKind.TheVariants as Kind
use Rattle.hex.specs.Hex.{encode_lower, encode_with, lower_digits}
use Rattle.json.specs.Print.{escape, escape_byte}
use Rattle.layout.specs.Bytes.{AreBytes}

-- no control character, quote (34) or backslash (92)
record IsPlainByte (x : ℕ) : Type 0 where
  above : 32 ≤ x
  no_quote : x ≢ 34
  no_backslash : x ≢ 92

plain_byte : (x : ℕ) → IsPlainByte x → escape_byte x ≡ x ∷ []
unfolding escape_byte
plain_byte x h =
    let high : nat_lt x 32 ≡ false = le-ltb x 32 h.above in
    let low : 32 ≤ x = h.above in
    rw (
      ne_eqb x 34 h.no_quote,
      ne_eqb x 92 h.no_backslash,
      ne_eqb x 8 (λ e. omega arith),
      ne_eqb x 12 (λ e. omega arith),
      ne_eqb x 10 (λ e. omega arith),
      ne_eqb x 13 (λ e. omega arith),
      ne_eqb x 9 (λ e. omega arith),
      high,
    ) refl

IsPlainText : List ℕ → Type 0
IsPlainText [] = Unit {0}
IsPlainText (x ∷ xs) = IsPlainByte x × IsPlainText xs

escape_plain : (s : List ℕ) → IsPlainText s → escape s ≡ s
unfolding IsPlainText
escape_plain [] h = refl
escape_plain (x ∷ xs) h = ap (λ t. t ++ escape xs) (plain_byte x h.0) ∙ ap (λ t. x ∷ t) (escape_plain xs h.1)

-- The digits of an IMEI.

plain_push : (s : List ℕ) (x : ℕ) → IsPlainText s → IsPlainByte x → IsPlainText (s ++ x ∷ [])
unfolding IsPlainText
plain_push [] x h p = (p, tt)
plain_push (y ∷ ys) x h p = (h.0, plain_push ys x h.1 p)

places_plain : (places n : ℕ) → IsPlainText (decimal_places places n)
unfolding decimal_places IsPlainText
places_plain zero n = tt
places_plain (suc places) n =
    plain_push (decimal_places places (n / 10)) (48 + n % 10) (places_plain places (n / 10)) (record { above = omega arith; no_quote = λ e. omega arith; no_backslash = λ e. omega arith })

pub imei_plain : (imei : ℕ) → escape (imei_text imei) ≡ imei_text imei
imei_plain imei = escape_plain (imei_text imei) (places_plain 15 imei)

places_ascii : (places n : ℕ) → IsAscii (decimal_places places n)
unfolding decimal_places
places_ascii zero n = IsAscii-nil
places_ascii (suc places) n = IsAscii-push (decimal_places places (n / 10)) (48 + n % 10) (places_ascii places (n / 10)) (omega arith)

pub imei_ascii : (imei : ℕ) → IsAscii (imei_text imei)
imei_ascii imei = places_ascii 15 imei

-- Hexadecimal digits.

is_plain : ℕ → Bool
is_plain x = nat_le 32 x && (not (x == 34) && not (x == 92))

tested_plain : (x : ℕ) → is_plain x ≡ true → IsPlainByte x
unfolding is_plain
tested_plain x h = record { above = grind (arith, nat_tests); no_quote = λ e. grind (arith, nat_tests); no_backslash = λ e. grind (arith, nat_tests) }

left_true : (a b : Bool) → (a && b) ≡ true → a ≡ true
left_true true b h = refl
left_true false b h = h

right_true : (a b : Bool) → (a && b) ≡ true → b ≡ true
right_true true b h = h
right_true false b h = absurd cc

plain_digit : (s : List ℕ) (k : ℕ) → list_all is_plain s ≡ true → k < length s → IsPlainByte (slice_index s k)
plain_digit [] k h lt = absurd (omega arith)
plain_digit (x ∷ xs) zero h lt = tested_plain x (left_true (is_plain x) (list_all is_plain xs) h)
plain_digit (x ∷ xs) (suc k) h lt = plain_digit xs k (right_true (is_plain x) (list_all is_plain xs) h) (omega arith)

digit_plain : (k : ℕ) → k < 16 → IsPlainByte (slice_index lower_digits k)
unfolding is_plain
digit_plain k h = plain_digit lower_digits k refl h

hex_plain_text : (bytes : List ℕ) → AreBytes bytes → IsPlainText (encode_lower bytes)
unfolding encode_with IsPlainText
hex_plain_text [] h = tt
hex_plain_text (b ∷ bs) h =
    let is_byte : b < 256 = h.0 in
    let high : b / 16 < 16 = omega arith in
    let low : b % 16 < 16 = omega arith in
    (digit_plain (b / 16) high, (digit_plain (b % 16) low, hex_plain_text bs h.1))

pub hex_plain : (bytes : List ℕ) → AreBytes bytes → escape (encode_lower bytes) ≡ encode_lower bytes
hex_plain bytes h = escape_plain (encode_lower bytes) (hex_plain_text bytes h)

-- Names of faults.

pub name_plain : (kind : FaultKind) → escape (name_of kind) ≡ name_of kind
unfolding escape_byte
name_plain Kind.UnknownCodec = refl
name_plain Kind.NoRecords = refl
name_plain Kind.Overrun = refl
name_plain Kind.TotalMismatch = refl
name_plain Kind.CountMismatch = refl
name_plain Kind.Excess = refl
name_plain Kind.Preamble = refl
name_plain Kind.Length = refl
name_plain Kind.CrcHigh = refl
name_plain Kind.CrcMismatch = refl
name_plain Kind.LoginLength = refl
name_plain Kind.LoginDigit = refl
name_plain Kind.DatagramLength = refl
name_plain Kind.Quantity = refl
name_plain Kind.CommandType = refl
name_plain Kind.CommandSize = refl
name_plain Kind.ImeiDigits = refl
