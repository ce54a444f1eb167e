-- What is left of a body's rows at a place of the code.
use Rattle.std.specs.Prelude.{◌≡◌, ℕ}
use Rattle.layout.specs.Rows.{Rows, done}
use Rattle.layout.specs.Fields.{times, followed_by}
use Rattle.field_machine.specs.declared.left.Left.{Left}
use Rattle.field_machine.specs.declared.left.Left.TheVariants as left
use Rattle.record_layout.specs.declared.head.PacketHead.{PacketHead}
use Rattle.record_layout.specs.PacketRows.{last_count, after_codec, packet_rows}
use Rattle.record_layout.specs.RecordRows.{record_rows}
use Rattle.record_codecs.specs.declared.place.PacketPlace.{PacketPlace}
use Rattle.record_codecs.specs.declared.place.PacketPlace.TheVariants as at
use Rattle.record_codecs.specs.RecordCursor.{rows_in, width_in}

-- N records, and the second number of records
abbrev pub records_left : PacketHead → ℕ → Rows PacketHead
records_left head n = times n (record_rows head.codec) (last_count head)

abbrev pub rows_at : PacketPlace → Rows PacketHead
rows_at at.Codec = packet_rows
rows_at (at.Count codec) = after_codec codec
rows_at (at.Record head n r) = followed_by (rows_in r) (λ _. records_left head n)
rows_at (at.LastCount head) = last_count head
rows_at (at.End head) = done head

-- the next field's width, or the end and what the body says
abbrev pub left_of : PacketPlace → Left PacketHead
left_of at.Codec = left.Field 1
left_of (at.Count codec) = left.Field 1
left_of (at.Record head n r) = left.Field (width_in r)
left_of (at.LastCount head) = left.Field 1
left_of (at.End head) = left.Nothing head

-- the rows are those that are left here
abbrev pub StandsAt : PacketPlace → Rows PacketHead → Type 0
StandsAt c here = here ≡ rows_at c

-- what the code says of a whole body is what it says
abbrev pub SaysHead : PacketHead → PacketHead → Type 0
SaysHead head v = v ≡ head
