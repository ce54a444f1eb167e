-- The index beside a list that holds each record once: under a record's digest is the place of a record of that digest.
use Rattle.std.specs.Prelude.{◌≡◌, ℕ, ◌*◌, ◌%◌, ◌^◌, bit_xor, List, slice_get, Option, Some, IsSome}
use Rattle.std.specs.BTreeMap.{BTreeMap, get}
use Rattle.std.specs.List.{fold}
use Rattle.std.specs.Ordering.{nat_cmp}
use Rattle.avl_values.specs.Codec.{id_of}
use Rattle.avl_values.specs.Record.{Record}

-- one byte more (FNV-1a by 64 bits, by Fowler, Noll and Vo)
unfoldable pub mixed_with : ℕ → ℕ → ℕ
mixed_with digest byte = (bit_xor digest byte * 0x100000001b3) % 2 ^ 64

-- A record's digest, over its codec id and its bytes. No result rests on what it is: it says where the index looks.
unfoldable pub digest_of : Record → ℕ
digest_of r = fold mixed_with (mixed_with 0xcbf29ce484222325 (id_of r.codec)) r.bytes

abbrev pub place_in : BTreeMap ℕ ℕ → ℕ → Option ℕ
place_in places digest = get nat_cmp places digest

-- The index has a place for the digest of each record that is listed.
pub record IsIndexed (list : List Record) (find : ℕ → Option ℕ) : Type 0 where
  pub each : (p : ℕ) (r : Record) → slice_get list p ≡ Some r → IsSome (find (digest_of r))
