-- The checksum of a frame: CRC-16/IBM (Teltonika, Data Sending Protocols, "CRC-16"): polynomial 0x8005 taken from the
-- lowest bit on, as 0xA001, with the first word 0 and nothing done at the end.
use Rattle.std.specs.Prelude.{ℕ, zero, suc, ◌/◌, ◌%◌, ◌==◌, List, bit_xor, if◌then◌else◌, fold}

-- one bit of a word goes out at its low end; where it is 1 the polynomial comes in
abbrev pub after_bit : ℕ → ℕ
after_bit word = if word % 2 == 1 then bit_xor (word / 2) 0xA001 else word / 2

-- N bits go out
unfoldable pub after_bits : ℕ → ℕ → ℕ
after_bits zero word = word
after_bits (suc bits) word = after_bits bits (after_bit word)

-- the word after a byte, which comes into its low half
abbrev pub after_byte : ℕ → ℕ → ℕ
after_byte word byte = after_bits 8 (bit_xor word byte)

-- the word of no bytes is 0, and that of bytes and one more is the word of the bytes after that one
unfoldable pub crc_of : List ℕ → ℕ
crc_of bytes = fold after_byte 0 bytes
