-- One record, whatever it says.
use Rattle.std.specs.Prelude.{ℕ, List}
use Rattle.avl_values.specs.RecordValue.{RecordValue}
use Rattle.avl_values.specs.declared.codec.Codec.{Codec}
use Rattle.record_layout.specs.Spelling.{IsRecord}

-- these bytes are one record in this codec, and nothing more
pub record IsSomeRecord (codec : Codec) (bytes : List ℕ) : Type 0 where
  pub value : RecordValue
  pub is : IsRecord codec value bytes
