-- The word after a byte is that of its high half and that of its low half.
use Rattle.std.proofs.Common.{◌≡◌, ℕ, zero, suc, ◌+◌, ◌*◌, ◌/◌, ◌%◌, ◌<◌, ◌^◌, true, false, refl, arith, ap, ◌∙◌, sym, add-one}
use Rattle.std.specs.Prelude.{bit_xor, ◌==◌, if◌then◌else◌}
use Rattle.std.specs.Int.{bit_at}
use Rattle.std.proofs.lemmas.Grind.{pow_more}
use Rattle.std.proofs.Math.Nat.{mod-lt}
use Rattle.std.proofs.lemmas.Nat.{div-add-mod', xor_comm, xor_shr, xor_mod, xor_block, pow_pos}
use Rattle.std.proofs.lemmas.Nat.Bits.{bit_at_xor, bit_at-zero, bit_at-lt, same_from_bits}
use Rattle.crc_field.specs.Crc.{after_bit, after_bits, after_byte}

pub xor-zero : (n : ℕ) → bit_xor n 0 ≡ n
xor-zero n = same_from_bits (bit_xor n 0) n (λ i.
    let low : bit_at n i < 2 = bit_at-lt n i in
    rw (bit_at_xor n 0 i, bit_at-zero i) (omega arith))

pub zero-xor : (n : ℕ) → bit_xor 0 n ≡ n
zero-xor n = xor_comm 0 n ∙ xor-zero n

pub xor_assoc : (a b c : ℕ) → bit_xor (bit_xor a b) c ≡ bit_xor a (bit_xor b c)
xor_assoc a b c = same_from_bits (bit_xor (bit_xor a b) c) (bit_xor a (bit_xor b c)) (λ i.
    rw (bit_at_xor (bit_xor a b) c i, bit_at_xor a b i, bit_at_xor a (bit_xor b c) i, bit_at_xor b c i) (omega arith))

pub swap_middle : (p q r s : ℕ) → bit_xor (bit_xor p q) (bit_xor r s) ≡ bit_xor (bit_xor p r) (bit_xor q s)
swap_middle p q r s =
    xor_assoc p q (bit_xor r s)
    ∙ ap (bit_xor p) (sym (xor_assoc q r s) ∙ ap (λ x. bit_xor x s) (xor_comm q r) ∙ xor_assoc r q s)
    ∙ sym (xor_assoc p r (bit_xor q s))

-- what a bit that goes out brings in
abbrev pub brought : ℕ → ℕ
brought bit = if bit == 1 then 0xA001 else 0

brought-xor : (x y : ℕ) → x < 2 → y < 2 → brought (bit_xor x y) ≡ bit_xor (brought x) (brought y)
brought-xor zero zero p q = refl
brought-xor zero (suc zero) p q = refl
brought-xor (suc zero) zero p q = refl
brought-xor (suc zero) (suc zero) p q = refl
brought-xor (suc (suc x)) y p q = absurd (omega arith)
brought-xor zero (suc (suc y)) p q = absurd (omega arith)
brought-xor (suc zero) (suc (suc y)) p q = absurd (omega arith)

pub after_bit-parts : (word : ℕ) → after_bit word ≡ bit_xor (word / 2) (brought (word % 2))
after_bit-parts word = elim (word % 2 == 1) as (λ b. (if b then bit_xor (word / 2) 0xA001 else word / 2) ≡ bit_xor (word / 2) (if b then 0xA001 else 0)) [
  | true ↦ refl
  | false ↦ sym (xor-zero (word / 2))
]

pub after_bit-xor : (a b : ℕ) → after_bit (bit_xor a b) ≡ bit_xor (after_bit a) (after_bit b)
after_bit-xor a b =
    let low : a % 2 < 2 = omega arith in
    let low' : b % 2 < 2 = omega arith in
    after_bit-parts (bit_xor a b)
    ∙ ap (λ x. bit_xor x (brought (bit_xor a b % 2))) (xor_shr a b 1)
    ∙ ap (λ x. bit_xor (bit_xor (a / 2) (b / 2)) (brought x)) (xor_mod a b 1)
    ∙ ap (bit_xor (bit_xor (a / 2) (b / 2))) (brought-xor (a % 2) (b % 2) low low')
    ∙ swap_middle (a / 2) (b / 2) (brought (a % 2)) (brought (b % 2))
    ∙ ap (λ x. bit_xor x (bit_xor (b / 2) (brought (b % 2)))) (sym (after_bit-parts a))
    ∙ ap (bit_xor (after_bit a)) (sym (after_bit-parts b))

pub after_bits-xor : (n a b : ℕ) → after_bits n (bit_xor a b) ≡ bit_xor (after_bits n a) (after_bits n b)
unfolding after_bits
after_bits-xor zero a b = refl
after_bits-xor (suc n) a b = ap (after_bits n) (after_bit-xor a b) ∙ after_bits-xor n (after_bit a) (after_bit b)

after_bit-even : (z : ℕ) → after_bit (z * 2) ≡ z
after_bit-even z =
    let half : z * 2 / 2 ≡ z = omega arith in
    let even : z * 2 % 2 ≡ 0 = omega arith in
    after_bit-parts (z * 2) ∙ ap (λ x. bit_xor x (brought (z * 2 % 2))) half ∙ ap (λ x. bit_xor z (brought x)) even ∙ xor-zero z

-- bits that are zero go out and bring nothing in
pub after_bits-shifted : (n y : ℕ) → after_bits n (y * 2 ^ n) ≡ y
unfolding after_bits
after_bits-shifted zero y = omega arith
after_bits-shifted (suc n) y =
    let more : 2 ^ suc n ≡ 2 ^ n * 2 = ap (λ k. 2 ^ k) (sym (add-one n)) ∙ pow_more 2 n in
    let twice : y * 2 ^ suc n ≡ (y * 2 ^ n) * 2 = ap (λ k. y * k) more ∙ omega arith in
    ap (λ x. after_bits n (after_bit x)) twice ∙ ap (after_bits n) (after_bit-even (y * 2 ^ n)) ∙ after_bits-shifted n y

halves : (n x : ℕ) → x ≡ bit_xor (x / 2 ^ n * 2 ^ n) (x % 2 ^ n)
halves n x =
    let some : 0 < 2 ^ n = pow_pos n in
    let low : x % 2 ^ n < 2 ^ n = mod-lt x some in
    let left : x / 2 ^ n * 2 ^ n + 0 ≡ x / 2 ^ n * 2 ^ n = omega arith in
    let right : 0 * 2 ^ n + x % 2 ^ n ≡ x % 2 ^ n = omega arith in
    let whole : x ≡ x / 2 ^ n * 2 ^ n + x % 2 ^ n = sym (div-add-mod' x (2 ^ n)) in
    whole
    ∙ ap (λ y. y * 2 ^ n + x % 2 ^ n) (sym (xor-zero (x / 2 ^ n)))
    ∙ ap (λ y. bit_xor (x / 2 ^ n) 0 * 2 ^ n + y) (sym (zero-xor (x % 2 ^ n)))
    ∙ sym (xor_block n (x / 2 ^ n) 0 0 (x % 2 ^ n) some low)
    ∙ ap (λ y. bit_xor y (0 * 2 ^ n + x % 2 ^ n)) left
    ∙ ap (bit_xor (x / 2 ^ n * 2 ^ n)) right

pub after_bits-halves : (n x : ℕ) → after_bits n x ≡ bit_xor (x / 2 ^ n) (after_bits n (x % 2 ^ n))
after_bits-halves n x =
    ap (after_bits n) (halves n x) ∙ after_bits-xor n (x / 2 ^ n * 2 ^ n) (x % 2 ^ n)
    ∙ ap (λ y. bit_xor y (after_bits n (x % 2 ^ n))) (after_bits-shifted n (x / 2 ^ n))

pub after_byte-halves : (word byte : ℕ) → byte < 256
    → after_byte word byte ≡ bit_xor (word / 256) (after_bits 8 (bit_xor word byte % 256))
after_byte-halves word byte few =
    let none : byte / 256 ≡ 0 = omega arith in
    after_bits-halves 8 (bit_xor word byte)
    ∙ ap (λ x. bit_xor x (after_bits 8 (bit_xor word byte % 256)))
    (xor_shr word byte 8 ∙ ap (bit_xor (word / 256)) none ∙ xor-zero (word / 256))
