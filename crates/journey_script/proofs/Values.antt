-- Numbers by their digits.
use Rattle.std.proofs.Common.{◌≡◌, ℕ, zero, suc, ◌+◌, ◌*◌, ◌/◌, ◌%◌, ◌^◌, ◌<◌, ◌≤◌, List, [], ◌∷◌, ◌++◌, take, length, get_or, fold, refl, sym, ap, ◌∙◌, pow-suc, arith}
use Rattle.avl_values.specs.Imei.{decimal_places, imei_text}
use Rattle.journey_script.specs.Numbers.{value_of, with_digit}

-- more digits stand for no smaller number
grows : (n : ℕ) (digits : List ℕ) → n ≤ fold with_digit n digits
grows n [] = omega arith
grows n (d ∷ ds) = omega (arith, grows (with_digit n d) ds)

part_below : (n i : ℕ) (digits : List ℕ) → fold with_digit n (take i digits) ≤ fold with_digit n digits
part_below n zero digits = grows n digits
part_below n (suc i) [] = omega arith
part_below n (suc i) (d ∷ ds) = part_below (with_digit n d) i ds

more_from : (n i : ℕ) (digits : List ℕ) → i < length digits → fold with_digit n (take (suc i) digits) ≡ with_digit (fold with_digit n (take i digits)) (get_or digits i 0)
more_from n i [] h = absurd (omega arith)
more_from n zero (d ∷ ds) h = refl
more_from n (suc i) (d ∷ ds) h = more_from (with_digit n d) i ds (omega arith)

pub value_more : (i : ℕ) (digits : List ℕ) → i < length digits → value_of (take (i + 1) digits) ≡ with_digit (value_of (take i digits)) (get_or digits i 0)
value_more i digits h = let e : i + 1 ≡ suc i = omega arith in rw e (more_from 0 i digits h)

pub value_above : (i : ℕ) (digits : List ℕ) → i < length digits → with_digit (value_of (take i digits)) (get_or digits i 0) ≤ value_of digits
value_above i digits h = omega (arith, value_more i digits h, part_below 0 (i + 1) digits)

-- a digit at the end
last_from : (n : ℕ) (digits : List ℕ) (d : ℕ) → fold with_digit n (digits ++ d ∷ []) ≡ with_digit (fold with_digit n digits) d
last_from n [] d = refl
last_from n (x ∷ xs) d = last_from (with_digit n x) xs d

pub places_value : (p n : ℕ) → n < 10 ^ p → value_of (decimal_places p n) ≡ n
unfolding decimal_places
places_value zero n h = omega arith
places_value (suc p) n h =
    let e : 10 ^ suc p ≡ 10 ^ p * 10 = pow-suc 10 p in
    let below : n / 10 < 10 ^ p = omega (arith, e) in
    let front = places_value p (n / 10) below in
    let last = last_from 0 (decimal_places p (n / 10)) (48 + n % 10) in
    last ∙ omega (arith, front)

pub imei_value : (imei : ℕ) (digits : List ℕ) → imei < 10 ^ 15 → imei_text imei ≡ digits → imei ≡ value_of digits
imei_value imei digits h e = sym (ap value_of (sym e) ∙ places_value 15 imei h)
