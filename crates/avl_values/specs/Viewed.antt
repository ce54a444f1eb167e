-- What a tracker's record stands for.
use Rattle.std.specs.Prelude.{List, map}
use Rattle.avl_values.specs.declared.rec.Rec.{Rec}
use Rattle.avl_values.specs.Record.{Record}

abbrev pub record_of : Rec → Record
record_of rec = record { codec = rec.codec; bytes = rec.bytes.items }

abbrev pub records_viewed : List Rec → List Record
records_viewed recs = map record_of recs
