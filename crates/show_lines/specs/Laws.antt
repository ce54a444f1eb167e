-- The value that is read from a record's bytes is the one that they spell.
use Rattle.std.specs.Prelude.{◌≡◌, ℕ, List}
use Rattle.avl_values.specs.RecordValue.{RecordValue}
use Rattle.avl_values.specs.declared.codec.Codec.{Codec}
use Rattle.record_layout.specs.Spelling.{IsRecord}
use Rattle.show_lines.specs.RecordValues.{value_in}

abbrev pub RecordIsRead : Type 0
RecordIsRead = (codec : Codec) (v : RecordValue) (bytes : List ℕ) → IsRecord codec v bytes → value_in codec bytes ≡ v
