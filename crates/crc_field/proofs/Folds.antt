-- The checksum of one more byte.
use Rattle.std.proofs.Common.{◌≡◌, ℕ, List, [], ◌∷◌, ◌++◌, refl}
use Rattle.std.proofs.lemmas.List.Sums.{fold_push}
use Rattle.crc_field.specs.Crc.{after_byte, crc_of}

pub crc-none : crc_of [] ≡ 0
unfolding crc_of
crc-none = refl

pub crc-push : (bytes : List ℕ) (byte : ℕ) → crc_of (bytes ++ byte ∷ []) ≡ after_byte (crc_of bytes) byte
unfolding crc_of
crc-push bytes byte = fold_push after_byte 0 bytes byte
