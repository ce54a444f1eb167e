-- What is spelled of a field is read as the same.
use Rattle.std.proofs.Common.{◌≡◌, ◌==◌, ◌+◌, ◌-◌, ◌/◌, ◌%◌, ◌^◌, ◌<◌, ◌≤◌, ℕ, ℤ, pos, negsuc, zero, suc, Bool, true, false, ◌&&◌, ◌||◌, not, nat_le, List, [], ◌∷◌, ◌++◌, length, length-append, get_or, option_map, lit<, Option, Some, None, Ok, refl, ap, ◌∙◌, arith, if◌then◌else◌, codes, decimal}
use Rattle.std.specs.Fmt.{signed_decimal}
use Rattle.std.specs.List.{list_all}
use Rattle.std.specs.Str.{bytes_eq}
use Rattle.std.proofs.lemmas.Bool.Decides.{nat_tests}
use Rattle.std.proofs.lemmas.Fmt.{decimal_digit, decimal_nonempty, digits_decimal, digits_value-decimal, first_decimal}
use Rattle.std.proofs.lemmas.Slice.Eq.{bytes_eq-Decides}
use Rattle.avl_values.specs.Imei.{decimal_places, imei_text, is_digit}
use Rattle.avl_values.specs.declared.codec.Codec.{Codec}
use Rattle.avl_values.specs.declared.codec.Codec.TheVariants.{C8, C8E, C16}
use Rattle.avl_values.specs.declared.order.Order.{Order}
use Rattle.avl_values.specs.declared.order.Order.TheVariants.{Oldest, Newest}
use Rattle.io_operands.specs.declared.setting.Operand.{Operand}
use Rattle.medium_model.specs.declared.bench.Tear.{Tear}
use Rattle.trial_model.specs.declared.script.Who.{Who}
use Rattle.journey_script.specs.declared.fault.ScriptFault.TheVariants.{BadChoice, BadImei, BadNumber}
use Rattle.journey_script.specs.Numbers.{imei_of, is_numeral, negative, number_within, signed_within, value_of}
use Rattle.journey_script.specs.Table.{CodecField, FieldKind, FlagField, ImeiField, LimitField, NumberField, OperandField, OrderField, Said, SignedField, TearField, WhoseField, found_or, made_or, read_field, spell_field, spell_limit, spell_whose}
use Rattle.journey_script.specs.Words.{codec_name, codecs, flag_name, flags, named, operand_name, operands, order_name, orders, tear_name, tears}
use Rattle.journey_script.proofs.FieldSpelling.{both, digit_at, own}
use Rattle.journey_script.proofs.Values.{places_value}

-- bytes above the space
abbrev pub solid : List ℕ → Bool
solid t = list_all (nat_le 33) t

digit_solid : (x : ℕ) → is_digit x ≡ true → nat_le 33 x ≡ true
digit_solid x h = let p = both (nat_le 48 x) _ h in grind (arith, nat_tests)

digits_solid : (t : List ℕ) → list_all is_digit t ≡ true → solid t ≡ true
digits_solid [] h = refl
digits_solid (x ∷ xs) h = let p = both (is_digit x) _ h in let q = digits_solid xs p.1 in rw (digit_solid x p.0) q

-- ---- numbers
decimal_digits : (n : ℕ) → n < 2 ^ 64 → list_all is_digit (decimal n) ≡ true
decimal_digits n h = digits_decimal own n h

decimal_value : (n : ℕ) → n < 2 ^ 64 → value_of (decimal n) ≡ n
decimal_value n h = digits_value-decimal own n h

-- its first byte is a digit
first_digit : (n : ℕ) → n < 2 ^ 64 → 48 ≤ get_or (decimal n) 0 0
first_digit n h = (digit_at 0 (decimal n) (decimal_digits n h) (decimal_nonempty n h)).0

no_minus : (n : ℕ) → n < 2 ^ 64 → (get_or (decimal n) 0 0 == 45) ≡ false
no_minus n h = let first = first_digit n h in grind (arith, nat_tests)

some_byte : (n : ℕ) → n < 2 ^ 64 → (length (decimal n) == 0) ≡ false
some_byte n h = let some = decimal_nonempty n h in grind (arith, nat_tests)

no_zero_first : (n : ℕ) → n < 2 ^ 64 → (not (get_or (decimal n) 0 0 == 48) || (length (decimal n) == 1)) ≡ true
no_zero_first zero h = ap (λ (t : List ℕ). not (get_or t 0 0 == 48) || (length t == 1)) (decimal_digit 0 (lit< tt))
no_zero_first (suc n) h =
    let above = first_decimal (suc n) (omega arith) h in
    let apart : (get_or (decimal (suc n)) 0 0 == 48) ≡ false = grind (arith, nat_tests) in
    rw apart refl

all_three : (a b c : Bool) → a ≡ false → b ≡ true → c ≡ true → (not a && (b && c)) ≡ true
all_three a b c ea eb ec = rw (ea, eb, ec) refl

decimal_numeral : (n : ℕ) → n < 2 ^ 64 → is_numeral (decimal n) ≡ true
decimal_numeral n h = all_three (length (decimal n) == 0) (list_all is_digit (decimal n)) _ (some_byte n h) (decimal_digits n h) (no_zero_first n h)

within : (low high n v : ℕ) (b : Bool) → b ≡ true → v ≡ n → low ≤ n → n ≤ high → (if b && (nat_le low v && nat_le v high) then Some v else None) ≡ Some n
within low high n v b eb ev least most =
    let above : nat_le low n ≡ true = grind (arith, nat_tests) in
    let below : nat_le n high ≡ true = grind (arith, nat_tests) in
    rw (eb, ev, above, below) refl

number_read : (low high n : ℕ) → low ≤ n → n ≤ high → high < 2 ^ 64 → number_within low high (decimal n) ≡ Some n
unfolding number_within
number_read low high n least most small =
    within low high n (value_of (decimal n)) (is_numeral (decimal n)) (decimal_numeral n (omega arith)) (decimal_value n (omega arith)) least most

-- a number from -(limit + 1) to limit
abbrev pub FitsSigned : ℕ → ℤ → Type 0
FitsSigned limit (pos n) = n ≤ limit
FitsSigned limit (negsuc n) = n ≤ limit

not_signed : (b : Bool) (negated plain : Option ℤ) → b ≡ false → (if b then negated else plain) ≡ plain
not_signed b negated plain e = rw e refl

signed_read : (limit : ℕ) (z : ℤ) → FitsSigned limit z → limit < 2 ^ 63 → signed_within limit (signed_decimal z) ≡ Some z
unfolding signed_within
signed_read limit (pos n) fits small =
    not_signed (get_or (decimal n) 0 0 == 45) _ (option_map pos (number_within 0 limit (decimal n))) (no_minus n (omega arith))
    ∙ ap (option_map pos) (number_read 0 limit n (omega arith) fits (omega arith))
signed_read limit (negsuc n) fits small =
    let back : suc n - 1 ≡ n = omega arith in
    ap (option_map negative) (number_read 1 (limit + 1) (suc n) (omega arith) (omega arith) (omega arith)) ∙ ap (λ (m : ℕ). Some (negsuc m)) back

-- ---- IMEIs
places_length : (p n : ℕ) → length (decimal_places p n) ≡ p
unfolding decimal_places
places_length zero n = refl
places_length (suc p) n = omega (arith, length-append (decimal_places p (n / 10)) ((48 + n % 10) ∷ []), places_length p (n / 10))

all_push : (t : List ℕ) (x : ℕ) → list_all is_digit t ≡ true → is_digit x ≡ true → list_all is_digit (t ++ x ∷ []) ≡ true
all_push [] x h e = rw e refl
all_push (y ∷ ys) x h e = let p = both (is_digit y) _ h in let q = all_push ys x p.1 e in rw p.0 q

last_digit : (n : ℕ) → is_digit (48 + n % 10) ≡ true
last_digit n = let below : n % 10 < 10 = omega arith in grind (arith, nat_tests)

places_digits : (p n : ℕ) → list_all is_digit (decimal_places p n) ≡ true
unfolding decimal_places
places_digits zero n = refl
places_digits (suc p) n = all_push (decimal_places p (n / 10)) (48 + n % 10) (places_digits p (n / 10)) (last_digit n)

imei_shape : (n v : ℕ) (a b : Bool) → a ≡ true → b ≡ true → v ≡ n → (if a && b then Some v else None) ≡ Some n
imei_shape n v a b ea eb ev = rw (ea, eb, ev) refl

pub imei_length : (n : ℕ) → length (imei_text n) ≡ 15
imei_length n = places_length 15 n

imei_read : (n : ℕ) → n < 10 ^ 15 → imei_of (imei_text n) ≡ Some n
unfolding imei_of
imei_read n h =
    let size : (length (imei_text n) == 15) ≡ true = let e = imei_length n in grind (arith, nat_tests) in
    imei_shape n (value_of (imei_text n)) (length (imei_text n) == 15) (list_all is_digit (imei_text n)) size (places_digits 15 n) (places_value 15 n h)

-- ---- what a field may say
abbrev pub IsWhose : Who → Type 0
IsWhose (Who.Device imei) = imei < 10 ^ 15
IsWhose Who.Server = Unit {0}

abbrev pub IsLimit : Option ℕ → Type 0
IsLimit None = Unit {0}
IsLimit (Some n) = n < 2 ^ 32

abbrev pub IsSaid : (kind : FieldKind) → Said kind → Type 0
IsSaid ImeiField said = said < 10 ^ 15
IsSaid WhoseField said = IsWhose said
IsSaid (NumberField low high) said = (low ≤ said) × (said ≤ high) × (high < 2 ^ 64)
IsSaid (SignedField limit) said = FitsSigned limit said × (limit < 2 ^ 63)
IsSaid LimitField said = IsLimit said
IsSaid CodecField said = Unit {0}
IsSaid OrderField said = Unit {0}
IsSaid FlagField said = Unit {0}
IsSaid OperandField said = Unit {0}
IsSaid TearField said = Unit {0}

codec_read : (c : Codec) → found_or BadChoice (named codec_name codecs (codec_name c)) ≡ Ok c
codec_read C8 = refl
codec_read C8E = refl
codec_read C16 = refl

order_read : (o : Order) → found_or BadChoice (named order_name orders (order_name o)) ≡ Ok o
order_read Oldest = refl
order_read Newest = refl

flag_read : (f : Bool) → found_or BadChoice (named flag_name flags (flag_name f)) ≡ Ok f
flag_read true = refl
flag_read false = refl

operand_read : (o : Operand) → found_or BadChoice (named operand_name operands (operand_name o)) ≡ Ok o
operand_read Operand.Exit = refl
operand_read Operand.Entrance = refl
operand_read Operand.Both = refl
operand_read Operand.Hysteresis = refl
operand_read Operand.Change = refl
operand_read Operand.Monitoring = refl

tear_read : (t : Tear) → found_or BadChoice (named tear_name tears (tear_name t)) ≡ Ok t
tear_read Tear.Keep = refl
tear_read Tear.New = refl
tear_read Tear.Zero = refl
tear_read Tear.AllOpen = refl
tear_read Tear.Half = refl

not_server : (n : ℕ) → bytes_eq (imei_text n) (codes "server") ≡ false
not_server n = by (bytes_eq (imei_text n) (codes "server")) refl
  where
    by : (b : Bool) → bytes_eq (imei_text n) (codes "server") ≡ b → b ≡ false
    by false e = refl
    by true e =
        let six : length (imei_text n) ≡ 6 = ap (λ (t : List ℕ). length t) ((bytes_eq-Decides (imei_text n) (codes "server")).0 e) in
        absurd (omega (arith, imei_length n, six))

whose_read : (w : Who) → IsWhose w → read_field WhoseField (spell_whose w) ≡ Ok w
whose_read (Who.Device imei) h =
    ap (λ (b : Bool). if b then Ok Who.Server else made_or BadImei Who.Device (imei_of (imei_text imei))) (not_server imei) ∙ ap (made_or BadImei Who.Device) (imei_read imei h)
whose_read Who.Server h = refl

not_dash : (n : ℕ) → n < 2 ^ 64 → bytes_eq (decimal n) (codes "-") ≡ false
not_dash n h = by (bytes_eq (decimal n) (codes "-")) refl
  where
    by : (b : Bool) → bytes_eq (decimal n) (codes "-") ≡ b → b ≡ false
    by false e = refl
    by true e =
        let dash : get_or (decimal n) 0 0 ≡ 45 = ap (λ (t : List ℕ). get_or t 0 0) ((bytes_eq-Decides (decimal n) (codes "-")).0 e) in
        absurd (omega (arith, first_digit n h, dash))

limit_read : (l : Option ℕ) → IsLimit l → read_field LimitField (spell_limit l) ≡ Ok l
limit_read None h = refl
limit_read (Some n) h =
    ap (λ (b : Bool). if b then Ok None else made_or BadNumber (λ n. Some n) (number_within 0 (2 ^ 32 - 1) (decimal n))) (not_dash n (omega arith))
    ∙ ap (made_or BadNumber (λ (n : ℕ). Some n)) (number_read 0 (2 ^ 32 - 1) n (omega arith) (omega arith) (lit< tt))

pub field_read : (kind : FieldKind) (said : Said kind) → IsSaid kind said → read_field kind (spell_field kind said) ≡ Ok said
field_read ImeiField said h = ap (found_or BadImei) (imei_read said h)
field_read WhoseField said h = whose_read said h
field_read (NumberField low high) said h = ap (found_or BadNumber) (number_read low high said h.0 h.1 h.2)
field_read (SignedField limit) said h = ap (found_or BadNumber) (signed_read limit said h.0 h.1)
field_read LimitField said h = limit_read said h
field_read CodecField said h = codec_read said
field_read OrderField said h = order_read said
field_read FlagField said h = flag_read said
field_read OperandField said h = operand_read said
field_read TearField said h = tear_read said

-- ---- no field has a space
decimal_solid : (n : ℕ) → n < 2 ^ 64 → solid (decimal n) ≡ true
decimal_solid n h = digits_solid (decimal n) (decimal_digits n h)

imei_solid : (n : ℕ) → solid (imei_text n) ≡ true
imei_solid n = digits_solid (imei_text n) (places_digits 15 n)

signed_solid : (limit : ℕ) (z : ℤ) → FitsSigned limit z → limit < 2 ^ 63 → solid (signed_decimal z) ≡ true
signed_solid limit (pos n) h small = decimal_solid n (omega arith)
signed_solid limit (negsuc n) h small = decimal_solid (suc n) (omega arith)

codec_solid : (c : Codec) → solid (codec_name c) ≡ true
codec_solid C8 = refl
codec_solid C8E = refl
codec_solid C16 = refl

order_solid : (o : Order) → solid (order_name o) ≡ true
order_solid Oldest = refl
order_solid Newest = refl

flag_solid : (f : Bool) → solid (flag_name f) ≡ true
flag_solid true = refl
flag_solid false = refl

operand_solid : (o : Operand) → solid (operand_name o) ≡ true
operand_solid Operand.Exit = refl
operand_solid Operand.Entrance = refl
operand_solid Operand.Both = refl
operand_solid Operand.Hysteresis = refl
operand_solid Operand.Change = refl
operand_solid Operand.Monitoring = refl

tear_solid : (t : Tear) → solid (tear_name t) ≡ true
tear_solid Tear.Keep = refl
tear_solid Tear.New = refl
tear_solid Tear.Zero = refl
tear_solid Tear.AllOpen = refl
tear_solid Tear.Half = refl

whose_solid : (w : Who) → IsWhose w → solid (spell_whose w) ≡ true
whose_solid (Who.Device imei) h = imei_solid imei
whose_solid Who.Server h = refl

limit_solid : (l : Option ℕ) → IsLimit l → solid (spell_limit l) ≡ true
limit_solid None h = refl
limit_solid (Some n) h = decimal_solid n (omega arith)

pub field_solid : (kind : FieldKind) (said : Said kind) → IsSaid kind said → solid (spell_field kind said) ≡ true
field_solid ImeiField said h = imei_solid said
field_solid WhoseField said h = whose_solid said h
field_solid (NumberField low high) said h = decimal_solid said (omega (arith, h.1, h.2))
field_solid (SignedField limit) said h = signed_solid limit said h.0 h.1
field_solid LimitField said h = limit_solid said h
field_solid CodecField said h = codec_solid said
field_solid OrderField said h = order_solid said
field_solid FlagField said h = flag_solid said
field_solid OperandField said h = operand_solid said
field_solid TearField said h = tear_solid said
