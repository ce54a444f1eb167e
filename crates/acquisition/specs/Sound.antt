-- Records that can be kept and sent.
use Rattle.std.specs.Prelude.{◌≡◌, List}
use Rattle.std.specs.List.{AllByRecursion}
use Rattle.avl_values.specs.Record.{Record}
use Rattle.avl_values.specs.declared.codec.Codec.{Codec}
use Rattle.record_layout.specs.SomeRecord.{IsSomeRecord}

-- each is of this codec, and its bytes are one record in it
abbrev pub AreRecordsOf : Codec → List Record → Type 0
AreRecordsOf codec records = AllByRecursion (λ r. (r.codec ≡ codec) × IsSomeRecord codec r.bytes) records
