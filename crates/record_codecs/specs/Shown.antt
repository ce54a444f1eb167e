-- What the view of a record shows.
use Rattle.std.specs.Prelude.{ℕ, List, Option, Some, None}
use Rattle.avl_values.specs.RecordValue.{RecordValue}
use Rattle.avl_values.specs.declared.codec.Codec.{Codec}
use Rattle.avl_values.specs.declared.codec.Codec.TheVariants.{C8, C8E, C16}
use Rattle.avl_values.specs.declared.gps.Gps.{Gps}
use Rattle.record_layout.specs.Spelling.{IsRecord}
use Rattle.record_codecs.specs.declared.record_view.RecordView.{RecordView}

-- the codec of a view, and the bytes that it reads
abbrev pub codec_of : RecordView → Codec
codec_of r = r.codec

abbrev pub viewed : RecordView → List ℕ
viewed r = r.bytes.now

-- the viewed bytes are the record of this value
abbrev pub Shows : RecordView → RecordValue → Type 0
Shows r v = IsRecord r.codec v r.bytes.now

abbrev pub gps_of : RecordValue → Gps
gps_of v = record { longitude = v.longitude; latitude = v.latitude; altitude = v.altitude; angle = v.angle; satellites = v.satellites; speed = v.speed }

abbrev pub generation_in : Codec → RecordValue → Option ℕ
generation_in C8 v = None
generation_in C8E v = None
generation_in C16 v = Some v.generation

-- only Codec 16 says it
abbrev pub generation_of : RecordView → RecordValue → Option ℕ
generation_of r v = generation_in r.codec v

-- where the groups of elements begin: after 24 bytes, the event's id, in Codec 16 the generation type, and the total
abbrev pub elements_from : Codec → ℕ
elements_from C8 = 26
elements_from C8E = 28
elements_from C16 = 28
