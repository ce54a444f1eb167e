-- The checksum of bytes fits two bytes.
use Rattle.std.proofs.Common.{ℕ, zero, suc, ◌/◌, ◌%◌, ◌<◌, ◌^◌, List, [], ◌∷◌, Bool, true, false, arith, ◌==◌, if◌then◌else◌}
use Rattle.std.specs.Prelude.{bit_xor, fold}
use Rattle.std.proofs.lemmas.Nat.{xor_lt}
use Rattle.crc_field.specs.Crc.{after_bit, after_bits, after_byte, crc_of}
use Rattle.layout.specs.Bytes.{AreBytes}

bit_by : (b : Bool) (word : ℕ) → word < 2 ^ 16 → (if b then bit_xor (word / 2) 0xA001 else word / 2) < 2 ^ 16
bit_by true word h = xor_lt 16 (word / 2) 0xA001 (omega arith) (omega arith)
bit_by false word h = omega arith

bits_small : (n word : ℕ) → word < 2 ^ 16 → after_bits n word < 2 ^ 16
unfolding after_bits
bits_small zero word h = h
bits_small (suc n) word h = bits_small n (after_bit word) (bit_by (word % 2 == 1) word h)

fold_small : (bytes : List ℕ) (word : ℕ) → word < 2 ^ 16 → AreBytes bytes → fold after_byte word bytes < 2 ^ 16
fold_small [] word h p = h
fold_small (b ∷ bytes) word h p = fold_small bytes (after_byte word b) (bits_small 8 (bit_xor word b) (xor_lt 16 word b h (let few = p.0 in omega arith))) p.1

pub crc_small : (bytes : List ℕ) → AreBytes bytes → crc_of bytes < 2 ^ 16
unfolding crc_of
crc_small bytes p = fold_small bytes 0 (omega arith) p
