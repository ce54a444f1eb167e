-- Which records a codec doesn't have (this project's own).
use Rattle.std.specs.Prelude.{◌<◌, All}
use Rattle.avl_values.specs.declared.avl_record.AvlRecord.{AvlRecord}
use Rattle.avl_values.specs.declared.codec.Codec.{Codec}
use Rattle.avl_values.specs.declared.codec.Codec.TheVariants.{C8, C8E, C16}

-- in Codec 8 the event's id and each element's have one byte
abbrev pub HasNarrowIds : Codec → AvlRecord → Type 0
HasNarrowIds C8 r = (r.event < 256) × All (λ io. io.id < 256) r.ios.items
HasNarrowIds C8E r = Unit {0}
HasNarrowIds C16 r = Unit {0}
