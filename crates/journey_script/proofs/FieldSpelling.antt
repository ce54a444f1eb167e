-- Each field has one spelling: what was read of it, written again.
use Rattle.std.proofs.Common.{◌≡◌, ◌==◌, ◌+◌, ◌-◌, ◌^◌, ◌<◌, ◌≤◌, ℕ, ℤ, pos, zero, suc, Bool, true, false, ◌&&◌, ◌||◌, not, nat_le, List, [], ◌∷◌, take, length, get_or, cond, option_map, lit<, Option, Some, None, Ok, refl, sym, ap, subst, ◌∙◌, arith, rules, if◌then◌else◌, codes, decimal}
use Rattle.std.specs.Fmt.{signed_decimal}
use Rattle.std.specs.List.{fold, list_all}
use Rattle.std.specs.Str.{bytes_eq}
use Rattle.std.proofs.lemmas.Bool.{eqb-true}
use Rattle.std.proofs.lemmas.Bool.Decides.{nat_tests}
use Rattle.std.proofs.lemmas.Fmt.{decimal-digits_value}
use Rattle.std.proofs.lemmas.Slice.Eq.{bytes_eq-Decides}
use Rattle.std.proofs.lemmas.Str.Parse.{IsNumeralModel, numerals_by_fold}
use Rattle.std.proofs.lemmas.List.{take_all}
use Rattle.avl_values.proofs.Places.{places-none, taken-more}
use Rattle.avl_values.specs.Imei.{decimal_places, imei_text, is_digit}
use Rattle.trial_model.specs.declared.script.Who.{Who}
use Rattle.journey_script.specs.declared.fault.ScriptFault.{ScriptFault}
use Rattle.journey_script.specs.declared.fault.ScriptFault.TheVariants.{BadChoice, BadImei, BadNumber}
use Rattle.journey_script.specs.Numbers.{imei_of, is_numeral, negative, number_within, signed_within, value_of, with_digit}
use Rattle.journey_script.specs.Table.{CodecField, FieldKind, FlagField, ImeiField, LimitField, NumberField, OperandField, OrderField, Said, SignedField, TearField, WhoseField, found_or, made_or, read_field, spell_field, spell_limit, spell_whose}
use Rattle.journey_script.specs.Words.{codec_name, codecs, flag_name, flags, named, operand_name, operands, order_name, orders, tear_name, tears}
use Rattle.journey_script.proofs.Values.{value_more}

pub both : (a b : Bool) → (a && b) ≡ true → (a ≡ true) × (b ≡ true)
both true true h = (refl, refl)
both true false h = absurd (cc)
both false b h = absurd (cc)

pub not_true : (b : Bool) → not b ≡ true → b ≡ false
not_true true h = absurd (cc)
not_true false h = refl

pub then_second : (a b : Bool) → (not a || b) ≡ true → a ≡ true → b ≡ true
then_second true b h e = h
then_second false b h e = absurd (cc)

pub chosen : {A : Type 0} (b : Bool) (x y : A) → (if b then Some x else None) ≡ Some y → (b ≡ true) × (x ≡ y)
chosen true x y h = (refl, cc)
chosen false x y h = absurd (cc)

pub mapped : {A B : Type 0} (f : A → B) (o : Option A) (y : B) → option_map f o ≡ Some y → (x : A) × (o ≡ Some x) × (f x ≡ y)
mapped f None y h = absurd (cc)
mapped f (Some x) y h = (x, refl, cc)

-- ---- numbers
pub own : IsNumeralModel (λ ds. list_all is_digit ds ≡ true) (fold with_digit 0)
own = numerals_by_fold _ (search rules) (λ n ds. fold with_digit n ds) (search rules)

some_digits : (t : List ℕ) → (length t == 0) ≡ false → 0 < length t
some_digits t h = grind (arith, nat_tests)

zero_first : (t : List ℕ) → get_or t 0 0 ≡ 48 → (get_or t 0 0 == 48) ≡ true
zero_first t h = grind (arith, nat_tests)

numeral : (t : List ℕ) → is_numeral t ≡ true → value_of t < 2 ^ 64 → decimal (value_of t) ≡ t
numeral t h small =
    let p = both (not (length t == 0)) _ h in
    let q = both (list_all is_digit t) _ p.1 in
    decimal-digits_value own t q.0 (some_digits t (not_true _ p.0)) (λ e. eqb-true (length t) 1 (then_second (get_or t 0 0 == 48) (length t == 1) q.1 (zero_first t e))) small

-- What a number within a range says.
pub record IsNumber (low high : ℕ) (t : List ℕ) (n : ℕ) : Type 0 where
  pub least : low ≤ n
  pub most : n ≤ high
  pub digits : list_all is_digit t ≡ true
  pub spelled : decimal n ≡ t

pub is_number : (low high : ℕ) (t : List ℕ) (n : ℕ) → high < 2 ^ 64 → number_within low high t ≡ Some n → IsNumber low high t n
unfolding number_within
is_number low high t n small h =
    let test = is_numeral t && (nat_le low (value_of t) && nat_le (value_of t) high) in
    let p = chosen test (value_of t) n h in
    let q = both (is_numeral t) _ p.0 in
    let r = both (nat_le low (value_of t)) _ q.1 in
    let least : low ≤ value_of t = grind (arith, nat_tests) in
    let most : value_of t ≤ high = grind (arith, nat_tests) in
    let s = both (not (length t == 0)) _ q.0 in
    record {
      least = omega (arith, p.1);
      most = omega (arith, p.1);
      digits = (both (list_all is_digit t) _ s.1).0;
      spelled = ap (λ (v : ℕ). decimal v) (sym p.1) ∙ numeral t q.0 (omega arith);
    }

number_spelled : (low high : ℕ) (t : List ℕ) (n : ℕ) → high < 2 ^ 64 → number_within low high t ≡ Some n → decimal n ≡ t
number_spelled low high t n small h = (is_number low high t n small h).spelled

minus_spelled : (n : ℕ) (t : List ℕ) → 1 ≤ n → decimal n ≡ t → signed_decimal (negative n) ≡ 45 ∷ t
minus_spelled n t some h = let back : suc (n - 1) ≡ n = omega arith in rw back (ap (λ (ds : List ℕ). 45 ∷ ds) h)

signed_spelled : (limit : ℕ) (t : List ℕ) (z : ℤ) → limit < 2 ^ 63 → signed_within limit t ≡ Some z → signed_decimal z ≡ t
unfolding signed_within
signed_spelled limit [] z small h =
    let p = mapped pos (number_within 0 limit []) z h in
    ap signed_decimal (sym p.2) ∙ number_spelled 0 limit [] p.0 (omega arith) p.1
signed_spelled limit (x ∷ xs) z small h = by (x == 45) refl h
  where
    by : (b : Bool) → (x == 45) ≡ b → (if b then option_map negative (number_within 1 (limit + 1) xs) else option_map pos (number_within 0 limit (x ∷ xs))) ≡ Some z → signed_decimal z ≡ x ∷ xs
    by true e h =
        let p = mapped negative (number_within 1 (limit + 1) xs) z h in
        let n = is_number 1 (limit + 1) xs p.0 (omega arith) p.1 in
        let minus : x ≡ 45 = eqb-true x 45 e in
        ap signed_decimal (sym p.2) ∙ minus_spelled p.0 xs n.least n.spelled ∙ ap (λ (c : ℕ). c ∷ xs) (sym minus)
    by false e h =
        let p = mapped pos (number_within 0 limit (x ∷ xs)) z h in
        ap signed_decimal (sym p.2) ∙ number_spelled 0 limit (x ∷ xs) p.0 (omega arith) p.1

-- ---- IMEIs
pub digit_at : (k : ℕ) (t : List ℕ) → list_all is_digit t ≡ true → k < length t → (48 ≤ get_or t k 0) × (get_or t k 0 ≤ 57)
digit_at k [] h below = absurd (omega arith)
digit_at zero (x ∷ xs) h below = let p = both (is_digit x) _ h in let q = both (nat_le 48 x) _ p.0 in (grind (arith, nat_tests), grind (arith, nat_tests))
digit_at (suc k) (x ∷ xs) h below = digit_at k xs (both (is_digit x) _ h).1 (omega arith)

places : (k : ℕ) (t : List ℕ) → list_all is_digit t ≡ true → k ≤ length t → decimal_places k (value_of (take k t)) ≡ take k t
places zero t h few = places-none (value_of (take 0 t))
places (suc k) t h few =
    let d = digit_at k t h (omega arith) in
    let more = taken-more k (value_of (take k t)) t (omega arith) d.0 d.1 (places k t h (omega arith)) in
    let value = value_more k t (omega arith) in
    let step : k + 1 ≡ suc k = omega arith in
    subst (λ (m : ℕ). decimal_places m (value_of (take m t)) ≡ take m t) step (ap (decimal_places (k + 1)) value ∙ more)

pub imei_spelled : (t : List ℕ) (n : ℕ) → imei_of t ≡ Some n → imei_text n ≡ t
unfolding imei_of
imei_spelled t n h =
    let p = chosen ((length t == 15) && list_all is_digit t) (value_of t) n h in
    let q = both (length t == 15) _ p.0 in
    let size : length t ≡ 15 = eqb-true (length t) 15 q.0 in
    let all : take 15 t ≡ t = take_all 15 t (omega (arith, size)) in
    ap imei_text (sym p.1) ∙ subst (λ (s : List ℕ). imei_text (value_of s) ≡ s) all (places 15 t q.1 (omega (arith, size)))

-- ---- words
pub named_is : {A : Type 0} (name : A → List ℕ) (all : List A) (t : List ℕ) (x : A) → named name all t ≡ Some x → name x ≡ t
named_is name [] t x h = absurd (cc)
named_is name (y ∷ ys) t x h = by (bytes_eq (name y) t) refl h (λ rest. named_is name ys t x rest)
  where
    by : (b : Bool) → bytes_eq (name y) t ≡ b → cond b (Some y) (named name ys t) ≡ Some x → (named name ys t ≡ Some x → name x ≡ t) → name x ≡ t
    by true e h rest = let is : y ≡ x = cc in ap name (sym is) ∙ (bytes_eq-Decides (name y) t).0 e
    by false e h rest = rest h

-- ---- fields
pub found : {A : Type 0} (fault : ScriptFault) (o : Option A) (x : A) → found_or fault o ≡ Ok x → o ≡ Some x
found fault None x h = absurd (cc)
found fault (Some y) x h = cc

pub made : {A B : Type 0} (fault : ScriptFault) (make : A → B) (o : Option A) (y : B) → made_or fault make o ≡ Ok y → (x : A) × (o ≡ Some x) × (make x ≡ y)
made fault make None y h = absurd (cc)
made fault make (Some x) y h = (x, refl, cc)

whose_spelled : (t : List ℕ) (w : Who) → read_field WhoseField t ≡ Ok w → spell_whose w ≡ t
whose_spelled t w h = by (bytes_eq t (codes "server")) refl h
  where
    by : (b : Bool) → bytes_eq t (codes "server") ≡ b → (if b then Ok Who.Server else made_or BadImei Who.Device (imei_of t)) ≡ Ok w → spell_whose w ≡ t
    by true e h = let is : Who.Server ≡ w = cc in ap spell_whose (sym is) ∙ sym ((bytes_eq-Decides t (codes "server")).0 e)
    by false e h = let p = made BadImei Who.Device (imei_of t) w h in ap spell_whose (sym p.2) ∙ imei_spelled t p.0 p.1

limit_spelled : (t : List ℕ) (l : Option ℕ) → read_field LimitField t ≡ Ok l → spell_limit l ≡ t
limit_spelled t l h = by (bytes_eq t (codes "-")) refl h
  where
    some : ℕ → Option ℕ
    some n = Some n

    by : (b : Bool) → bytes_eq t (codes "-") ≡ b → (if b then Ok None else made_or BadNumber (λ n. Some n) (number_within 0 (2 ^ 32 - 1) t)) ≡ Ok l → spell_limit l ≡ t
    by true e h = let is : None ≡ l = cc in ap spell_limit (sym is) ∙ sym ((bytes_eq-Decides t (codes "-")).0 e)
    by false e h = let p = made BadNumber (λ (n : ℕ). Some n) (number_within 0 (2 ^ 32 - 1) t) l h in ap spell_limit (sym p.2) ∙ number_spelled 0 (2 ^ 32 - 1) t p.0 (lit< tt) p.1

-- the ranges are those of numbers of 64 bits
abbrev pub IsNarrow : FieldKind → Type 0
IsNarrow ImeiField = Unit {0}
IsNarrow WhoseField = Unit {0}
IsNarrow (NumberField low high) = high < 2 ^ 64
IsNarrow (SignedField limit) = limit < 2 ^ 63
IsNarrow LimitField = Unit {0}
IsNarrow CodecField = Unit {0}
IsNarrow OrderField = Unit {0}
IsNarrow FlagField = Unit {0}
IsNarrow OperandField = Unit {0}
IsNarrow TearField = Unit {0}

pub field_spelled : (kind : FieldKind) → IsNarrow kind → (t : List ℕ) (said : Said kind) → read_field kind t ≡ Ok said → spell_field kind said ≡ t
field_spelled ImeiField narrow t said h = imei_spelled t said (found BadImei (imei_of t) said h)
field_spelled WhoseField narrow t said h = whose_spelled t said h
field_spelled (NumberField low high) narrow t said h = number_spelled low high t said narrow (found BadNumber (number_within low high t) said h)
field_spelled (SignedField limit) narrow t said h = signed_spelled limit t said narrow (found BadNumber (signed_within limit t) said h)
field_spelled LimitField narrow t said h = limit_spelled t said h
field_spelled CodecField narrow t said h = named_is codec_name codecs t said (found BadChoice (named codec_name codecs t) said h)
field_spelled OrderField narrow t said h = named_is order_name orders t said (found BadChoice (named order_name orders t) said h)
field_spelled FlagField narrow t said h = named_is flag_name flags t said (found BadChoice (named flag_name flags t) said h)
field_spelled OperandField narrow t said h = named_is operand_name operands t said (found BadChoice (named operand_name operands t) said h)
field_spelled TearField narrow t said h = named_is tear_name tears t said (found BadChoice (named tear_name tears t) said h)
