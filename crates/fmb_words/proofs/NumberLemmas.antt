-- Numbers and IMEIs by their digits.
use Rattle.std.proofs.Common.{◌≡◌, ◌∙◌, ◌&&◌, ◌+◌, ◌*◌, ◌/◌, ◌%◌, ◌^◌, ◌<◌, ◌≤◌, nat_le, Bool, true, false, ℕ, zero, suc, List, [], ◌∷◌, ◌++◌, Some, None, Result, Ok, Err, refl, sym, ap, arith, pow-suc, if◌then◌else◌, drop, map, option_map}
use Rattle.std.proofs.lemmas.Fmt.{decimal_is_IsNumeral, parse-decimal}
use Rattle.std.proofs.lemmas.Bool.{leb-true}
use Rattle.std.proofs.lemmas.Slice.Eq.{bytes_eq-Decides}
use Rattle.std.proofs.lemmas.Str.{digit_value_digit}
use Rattle.std.specs.Fmt.{decimal}
use Rattle.std.specs.Char.{digit_value}
use Rattle.std.specs.Str.{bytes_eq}
use Rattle.std.specs.Str.Parse.{ParsesUnsigned, digits_value, digits_value_after}
use Rattle.avl_values.specs.Imei.{decimal_places, imei_text}
use Rattle.fmb_words.specs.Numbers.{imeis_of, number_within}

-- a digit at the end
last_from : (n : ℕ) (digits : List ℕ) (k : ℕ) → k < 10 → digits_value_after 10 n (digits ++ (48 + k) ∷ []) ≡ digits_value_after 10 n digits * 10 + k
last_from n [] k h = let e : digit_value (48 + k) ≡ k = omega (arith, digit_value_digit (48 + k) (omega arith, omega arith)) in ap (λ d. n * 10 + d) e
last_from n (x ∷ xs) k h = last_from (n * 10 + digit_value x) xs k h

places_value : (p n : ℕ) → n < 10 ^ p → digits_value 10 (decimal_places p n) ≡ n
unfolding decimal_places
places_value zero n h = omega arith
places_value (suc p) n h =
    let e : 10 ^ suc p ≡ 10 ^ p * 10 = pow-suc 10 p in
    let below : n / 10 < 10 ^ p = omega (arith, e) in
    let front = places_value p (n / 10) below in
    let last = last_from 0 (decimal_places p (n / 10)) (n % 10) (omega arith) in
    last ∙ omega (arith, front)

pub imei_value : (imei : ℕ) (digits : List ℕ) → imei < 10 ^ 15 → imei_text imei ≡ digits → digits_value 10 digits ≡ imei
imei_value imei digits h e = ap (digits_value 10) (sym e) ∙ places_value 15 imei h

and-fst : (a b : Bool) → (a && b) ≡ true → a ≡ true
and-fst true b h = refl
and-fst false b h = h

and-snd : (a b : Bool) → (a && b) ≡ true → b ≡ true
and-snd true b h = h
and-snd false b h = absurd (cc)

not_true : (b : Bool) → (b ≡ true → ⊥) → b ≡ false
not_true true h = absurd (h refl)
not_true false h = refl

abbrev value_or_zero : {E : Type 0} → Result ℕ E → ℕ
value_or_zero (Ok n) = n
value_or_zero (Err e) = 0

-- the word is the digits of this number, which is one from low to high
abbrev pub is_within : ℕ → ℕ → ℕ → List ℕ → Bool
is_within low high number word = bytes_eq (decimal number) word && (nat_le low number && nat_le number high)

within_spelled : (low high number : ℕ) (word : List ℕ) → is_within low high number word ≡ true → decimal number ≡ word
within_spelled low high number word is = (bytes_eq-Decides _ _).0 (and-fst _ _ is)

within_most : (low high number : ℕ) (word : List ℕ) → is_within low high number word ≡ true → number ≤ high
within_most low high number word is = leb-true _ _ (and-snd _ _ (and-snd _ _ is))

-- a word that is the digits of a number which fits is parsed as that
parsed : {E : Type 0} (low high number : ℕ) (word : List ℕ) (r : Result ℕ E) → high < 2 ^ 64 → ParsesUnsigned 64 10 word r
    → is_within low high number word ≡ true → r ≡ Ok number
parsed low high number word r small parses is =
    let most = within_most low high number word is in
    parse-decimal 64 number word r (omega (arith, most)) (omega (arith, most)) (sym (within_spelled low high number word is)) parses

none_within : (low high : ℕ) (word : List ℕ) → (is_within low high (digits_value 10 word) word ≡ true → ⊥) → number_within low high word ≡ None
unfolding number_within
none_within low high word h = ap (λ (b : Bool). if b then Some (digits_value 10 word) else None) (not_true _ h)

-- so one that isn't parsed is no number
pub unparsed_none : {E : Type 0} (low high : ℕ) (word : List ℕ) (r : Result ℕ E) (e : E) → high < 2 ^ 64 → ParsesUnsigned 64 10 word r → r ≡ Err e → number_within low high word ≡ None
unparsed_none low high word r e small parses is =
    none_within low high word (λ yes. let bad : Err e ≡ Ok (digits_value 10 word) = sym is ∙ parsed low high _ word r small parses yes in cc)

-- and neither is one that is parsed as a number, but has other digits, or is out of range
pub other_none : {E : Type 0} (low high number : ℕ) (word : List ℕ) (r : Result ℕ E) → high < 2 ^ 64 → ParsesUnsigned 64 10 word r → r ≡ Ok number
    → is_within low high number word ≡ false → number_within low high word ≡ None
other_none low high number word r small parses is other =
    none_within low high word (λ yes.
    let both : Ok number ≡ Ok (digits_value 10 word) = sym is ∙ parsed low high _ word r small parses yes in
    let same : number ≡ digits_value 10 word = ap value_or_zero both in
    let bad : false ≡ true = sym other ∙ ap (λ n. is_within low high n word) same ∙ yes in cc)

-- one that is parsed as a number in range, and has its digits, is that number
pub digits_number : (low high number : ℕ) (word : List ℕ) → high < 2 ^ 64 → is_within low high number word ≡ true → number_within low high word ≡ Some number
unfolding number_within
digits_number low high number word small is =
    let most = within_most low high number word is in
    let value : digits_value 10 word ≡ number = ap (digits_value 10) (sym (within_spelled low high number word is)) ∙ (decimal_is_IsNumeral number (omega (arith, most))).1 in
    ap (λ (n : ℕ). if is_within low high n word then Some n else None) value ∙ ap (λ (b : Bool). if b then Some number else None) is

-- IMEIs, one word after the other
module _ {X : Type 0} (text : X → List ℕ) (words : List X) where
  -- what was read of the first i words, before what the others say
  abbrev pub Reads : ℕ → List ℕ → Type 0
  Reads i list = imeis_of (map text words) ≡ option_map (λ rest. list ++ rest) (imeis_of (map text (drop i words)))
