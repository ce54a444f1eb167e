-- A data body while it is made: its codec, and its records so far.
use Rattle.std.specs.Prelude.{ℕ, List}
use Rattle.avl_values.specs.declared.codec.Codec.{Codec}

pub record Packing : Type 0 where
  pub codec : Codec
  pub records : List (List ℕ)
