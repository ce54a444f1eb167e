-- The first of three causes for which a value isn't written, or none (this project's own).
use Rattle.std.specs.Prelude.{◌<◌, ◌≤◌, Result, Ok, Err}
use Rattle.avl_values.specs.RecordValue.{value_of}
use Rattle.avl_values.specs.declared.avl_record.AvlRecord.{AvlRecord}
use Rattle.avl_values.specs.declared.codec.Codec.{Codec}
use Rattle.record_layout.specs.Spelling.{HasNoOther}
use Rattle.record_writing.specs.Length.{record_length}
use Rattle.record_writing.specs.Refusal.{HasNarrowIds}
use Rattle.record_writing.specs.declared.writing.WriteFault.{WriteFault}
use Rattle.record_writing.specs.declared.writing.WriteFault.TheVariants.{NotInCodec, IdTooWide, TooLong}

abbrev pub Checks : Codec → AvlRecord → {A : Type 0} → Result A WriteFault → Type 0
Checks codec r (Ok done) = HasNoOther codec (value_of r) × HasNarrowIds codec r × (record_length codec (value_of r) ≤ 255)
Checks codec r (Err NotInCodec) = ¬ HasNoOther codec (value_of r)
Checks codec r (Err IdTooWide) = HasNoOther codec (value_of r) × ¬ HasNarrowIds codec r
Checks codec r (Err TooLong) = HasNoOther codec (value_of r) × HasNarrowIds codec r × (255 < record_length codec (value_of r))
