-- A number of decimal digits, one digit more.
use Rattle.std.proofs.Common.{◌≡◌, ℕ, ◌+◌, ◌-◌, ◌*◌, ◌%◌, ◌<◌, ◌≤◌, ◌^◌, true, None, ap, subst, ◌∙◌, arith}
use Rattle.std.proofs.lemmas.Bool.Decides.{nat_tests}
use Rattle.avl_values.specs.Imei.{is_digit}
use Rattle.avl_values.specs.declared.fault.FaultKind.TheVariants.{LoginDigit}
use Rattle.layout.specs.Fields.{fault_unless}
use Rattle.avl_values.proofs.Places.{below-power, power-more}

pub digit_room : (left n : ℕ) → left ≤ 14 → n < 10 ^ (14 - left) → n < 10 ^ 14
digit_room left n few small = below-power (14 - left) n (omega arith) small

pub digit_more : (left n d : ℕ) → 0 < left → left ≤ 14 → n < 10 ^ (14 - left) → d < 10 → n * 10 + d < 10 ^ (14 - (left - 1))
digit_more left n d some few small digit =
    let same : (14 - left) + 1 ≡ 14 - (left - 1) = omega arith in
    subst (λ k. n * 10 + d < 10 ^ k) same (power-more (14 - left) n d small digit)

-- the sum doesn't wrap
pub digit_value : (left n v : ℕ) → left ≤ 14 → n < 10 ^ (14 - left) → v ≤ 57 → (n * 10 % 2 ^ 64 + (v - 48)) % 2 ^ 64 ≡ n * 10 + (v - 48)
digit_value left n v few small digit = let room = digit_room left n few small in omega (arith, room)

pub digit_passes : (n v : ℕ) → n ≡ v → 48 ≤ v → v ≤ 57 → fault_unless (is_digit n) LoginDigit ≡ None
digit_passes n v is low high = let digit : is_digit v ≡ true = grind (arith, nat_tests) in ap (λ b. fault_unless (is_digit b) LoginDigit) is ∙ ap (λ t. fault_unless t LoginDigit) digit
