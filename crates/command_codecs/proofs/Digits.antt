-- The digits of an IMEI, byte by byte.
use Rattle.std.proofs.Common.{◌≡◌, ℕ, ◌/◌, ◌^◌, [], ◌∷◌, length, refl, sym, ap, ◌∙◌, arith}
use Rattle.command_layout.specs.Spelling.{digit_pairs, two_digits}

pub eight_pairs : (n a b c d e f g h : ℕ) → a ≡ two_digits (n / 100 ^ 7) → b ≡ two_digits (n / 100 ^ 6) → c ≡ two_digits (n / 100 ^ 5) → d ≡ two_digits (n / 100 ^ 4) → e ≡ two_digits (n / 100 ^ 3)
    → f ≡ two_digits (n / 100 ^ 2) → g ≡ two_digits (n / 100 ^ 1) → h ≡ two_digits n → a ∷ b ∷ c ∷ d ∷ e ∷ f ∷ g ∷ h ∷ [] ≡ digit_pairs 8 n
unfolding digit_pairs
eight_pairs n a b c d e f g h p q r s t u v w =
    let last : two_digits (n / 100 ^ 0) ≡ two_digits n = ap two_digits (omega arith) in
    let end : h ≡ two_digits (n / 100 ^ 0) = w ∙ sym last in
    rw (p, q, r, s, t, u, v, end) refl

pub pairs_length : (n : ℕ) → length (digit_pairs 8 n) ≡ 8
unfolding digit_pairs
pairs_length n = refl
