-- A record's digest by 64 bits (FNV-1a over its codec id and its bytes, by Fowler, Noll and Vo). No answer rests on what it is:
-- it says where the index looks first.
use Rattle.std.specs.Prelude.{ℕ, ◌*◌, ◌%◌, ◌^◌, bit_xor, List}
use Rattle.std.specs.List.{fold}
use Rattle.avl_values.specs.Codec.{id_of}
use Rattle.avl_values.specs.declared.codec.Codec.{Codec}

unfoldable pub mixed_with : ℕ → ℕ → ℕ
mixed_with digest byte = (bit_xor digest byte * 0x100000001b3) % 2 ^ 64

unfoldable pub digest_of : Codec → List ℕ → ℕ
digest_of codec bytes = fold mixed_with (mixed_with 0xcbf29ce484222325 (id_of codec)) bytes
