-- The rows of a frame (Teltonika, Data Sending Protocols: preamble, data field length, data, CRC-16; the order in which they
-- are judged is this project's own). The checksum is taken from the codec id to the last byte of the data. A frame says what
-- its body says, and the body. The rows of a body may depend on its length.
use Rattle.std.specs.Prelude.{ℕ, ◌&&◌, ◌==◌, nat_le, List, []}
use Rattle.avl_values.specs.declared.fault.FaultKind.TheVariants.{Preamble, Length, CrcHigh, CrcMismatch}
use Rattle.crc_field.specs.Crc.{crc_of}
use Rattle.layout.specs.Rows.{Rows, done, within}
use Rattle.layout.specs.Fields.{fault_unless, number_row}
use Rattle.layout.specs.Nested.{with_bytes}

-- the low half of the checksum's field, and then the frame says this
abbrev pub crc_low_rows : {V : Type 0} → V → ℕ → Rows V
crc_low_rows v crc = number_row 2 (λ n. fault_unless (n == crc) CrcMismatch) (λ _. done v)

-- the high half of the checksum's field, which is zero, and the low half
abbrev pub crc_rows : {V : Type 0} → V → ℕ → Rows V
crc_rows v crc = number_row 2 (λ n. fault_unless (n == 0) CrcHigh) (λ _. crc_low_rows v crc)

-- a body of N bytes, and its checksum
unfoldable pub body_rows : {B : Type 0} → (ℕ → Rows B) → ℕ → Rows (B × List ℕ)
body_rows rows n = within n (with_bytes [] (rows n)) (λ b. crc_rows b (crc_of b.1))

-- the body's length, which is at least 3 and has a limit
unfoldable pub length_rows : {B : Type 0} → ℕ → (ℕ → Rows B) → Rows (B × List ℕ)
length_rows most rows = number_row 4 (λ n. fault_unless (nat_le 3 n && nat_le n most) Length) (λ n. body_rows rows n)

-- four zero bytes, the body's length, the body and its checksum
unfoldable pub frame_rows : {B : Type 0} → ℕ → (ℕ → Rows B) → Rows (B × List ℕ)
frame_rows most rows = number_row 4 (λ n. fault_unless (n == 0) Preamble) (λ _. length_rows most rows)
