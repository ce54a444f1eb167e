-- A record as contracts see it. Two records of one device are one where codec and bytes are the same.
use Rattle.std.specs.Prelude.{ℕ, List}
use Rattle.avl_values.specs.declared.codec.Codec.{Codec}

pub record Record : Type 0 where
  pub codec : Codec
  pub bytes : List ℕ
