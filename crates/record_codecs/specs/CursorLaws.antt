-- A body's cursor gives the width of the next row, and its end where the rows end.
use Rattle.std.proofs.Common.{◌≡◌, ℕ, List, ◌∷◌, drop, Some, refl, sym, subst}
use Rattle.layout.specs.Rows.{Rows}
use Rattle.layout.specs.Next.{width_of}
use Rattle.layout.proofs.Following.{follow_width}
use Rattle.field_machine.specs.Places.{Leaves}
use Rattle.record_layout.specs.declared.head.PacketHead.{PacketHead}
use Rattle.record_layout.specs.declared.part.Part.{Part}
use Rattle.record_layout.specs.declared.part.Part.TheVariants.{Plain, Total, Pairs, Triples}
use Rattle.record_layout.specs.PacketRows.{packet_rows}
use Rattle.record_layout.specs.RecordRows.{parts_rows}
use Rattle.record_layout.specs.Table.{parts_of}
use Rattle.record_codecs.specs.declared.place.PacketPlace.{PacketPlace}
use Rattle.record_codecs.specs.declared.place.PacketPlace.TheVariants as cursor
use Rattle.record_codecs.specs.declared.in_record.InRecord.{InRecord}
use Rattle.record_codecs.specs.declared.in_record.InRecord.TheVariants as at
use Rattle.record_codecs.specs.RecordCursor.{first_width_of, nothing, rows_in, width_in}
use Rattle.record_codecs.specs.BodyCursor.{SaysHead, StandsAt, left_of, records_left, rows_at}

pub packet_width : width_of packet_rows ≡ Some 1
unfolding packet_rows
packet_width = refl

part_width : (p : Part) (ps : List Part) (total counted : ℕ) → width_of (parts_rows (p ∷ ps) total counted nothing) ≡ Some (first_width_of p)
unfolding parts_rows
part_width (Plain f w) ps total counted = refl
part_width (Total w) ps total counted = refl
part_width (Pairs c i w) ps total counted = refl
part_width (Triples c i w) ps total counted = refl

pub in_width : (r : InRecord) → width_of (rows_in r) ≡ Some (width_in r)
in_width (at.Part r p) = part_width p (drop r.part (parts_of r.codec)) r.total r.counted
in_width (at.Id r p) = refl
in_width (at.Value r p) = refl
in_width (at.TextId r t) = refl
in_width (at.TextLength r t) = refl
in_width (at.Text r t n) = refl

left_is : (c : PacketPlace) → Leaves SaysHead (left_of c) (rows_at c)
left_is cursor.Codec = packet_width
left_is (cursor.Count codec) = refl
left_is (cursor.Record head n r) = follow_width (rows_in r) (λ _. records_left head n) (width_in r) (in_width r)
left_is (cursor.LastCount head) = refl
left_is (cursor.End head) = (head, refl, refl)

pub body_leaves : (c : PacketPlace) (here : Rows PacketHead) → StandsAt c here → Leaves SaysHead (left_of c) here
body_leaves c here is = subst (λ r. Leaves SaysHead (left_of c) r) (sym is) (left_is c)
