-- Decimal digits, one more or one less.
use Rattle.std.proofs.Common.{◌≡◌, ℕ, suc, ◌+◌, ◌-◌, ◌*◌, ◌/◌, ◌%◌, ◌<◌, ◌≤◌, ◌^◌, true, List, [], ◌∷◌, ◌++◌, length, take, drop, set, get_or, refl, arith, ap, ◌∙◌, sym, append_assoc, add-one}
use Rattle.std.specs.List.{AllPass}
use Rattle.std.proofs.lemmas.List.{take_more, drop-set}
use Rattle.std.proofs.lemmas.List.Elements.{All-push}
use Rattle.std.proofs.lemmas.Grind.{pow_more}
use Rattle.std.proofs.lemmas.Nat.{div-mul-add}
use Rattle.std.proofs.Math.Nat.{pow-le-pow_right}
use Rattle.std.proofs.lemmas.Bool.Decides.{nat_tests}
use Rattle.avl_values.specs.Imei.{decimal_places, is_digit}

pub places-suc : (k n : ℕ) → decimal_places (suc k) n ≡ decimal_places k (n / 10) ++ (48 + n % 10) ∷ []
unfolding decimal_places
places-suc k n = refl

pub mod-mul-add : (n d : ℕ) → d < 10 → (n * 10 + d) % 10 ≡ d
mod-mul-add n d h = omega (arith, div-mul-add n 10 d h)

pub places-more : (k n d : ℕ) → d < 10 → decimal_places (suc k) (n * 10 + d) ≡ decimal_places k n ++ (48 + d) ∷ []
places-more k n d h = rw (places-suc, div-mul-add n 10 d h, mod-mul-add n d h) refl

pub places-none : (n : ℕ) → decimal_places 0 n ≡ []
unfolding decimal_places
places-none n = refl

pub power-more : (k n d : ℕ) → n < 10 ^ k → d < 10 → n * 10 + d < 10 ^ (k + 1)
power-more k n d h e = rw (pow_more 10 k) (omega arith)

pub below-power : (k n : ℕ) → k < 15 → n < 10 ^ k → n < 10 ^ 14
below-power k n h e =
    let most : 10 ^ k ≤ 10 ^ 14 = pow-le-pow_right {n = 10} (omega arith) {i = k} {j = 14} (omega arith) in
    omega arith

-- one more digit, read from the left
pub taken-more : (k n : ℕ) (text : List ℕ) → k < length text → 48 ≤ get_or text k 0 → get_or text k 0 ≤ 57
    → decimal_places k n ≡ take k text → decimal_places (k + 1) (n * 10 + (get_or text k 0 - 48)) ≡ take (k + 1) text
taken-more k n text h low high e =
    let digit : get_or text k 0 - 48 < 10 = omega arith in
    let back : 48 + (get_or text k 0 - 48) ≡ get_or text k 0 = omega arith in
    rw (add-one, places-more k n (get_or text k 0 - 48) digit, back, e, ← add-one) (sym (take_more text k 0 h))

pub pass-more : (k : ℕ) (text : List ℕ) → k < length text → 48 ≤ get_or text k 0 → get_or text k 0 ≤ 57
    → AllPass is_digit (take k text) → AllPass is_digit (take (k + 1) text)
pass-more k text h low high pass =
    let digit : is_digit (get_or text k 0) ≡ true = grind (arith, nat_tests) in
    rw (take_more text k 0 h) (All-push (λ x. is_digit x ≡ true) (take k text) (get_or text k 0) pass digit)

-- one digit less is left, written from the right
pub written-more : (i rest : ℕ) (all text : List ℕ) → 0 < i → i ≤ length text → all ≡ decimal_places i rest ++ drop i text
    → all ≡ decimal_places (i - 1) (rest / 10) ++ drop (i - 1) (set text (i - 1) (48 + rest % 10))
written-more i rest all text some few e =
    let before : i ≡ suc (i - 1) = omega arith in
    let again : (i - 1) + 1 ≡ i = omega arith in
    let room : i - 1 < length text = omega arith in
    e ∙ ap (λ k. decimal_places k rest ++ drop i text) before ∙ rw (places-suc (i - 1) rest, append_assoc) refl
    ∙ ap (λ t. decimal_places (i - 1) (rest / 10) ++ t) (ap (λ k. (48 + rest % 10) ∷ drop k text) (sym again) ∙ sym (drop-set text (i - 1) (48 + rest % 10) room))
