-- A body's cursor, field by field.
use Rattle.std.proofs.Common.{◌≡◌, ℕ, ◌≤◌, arith, suc, List, Option, Some, None, Ok, Err, refl, sym, ap, ◌∙◌}
use Rattle.avl_values.specs.Codec.{codec_of}
use Rattle.avl_values.specs.Width.{bytes_of}
use Rattle.avl_values.specs.declared.codec.Codec.{Codec}
use Rattle.avl_values.specs.declared.fault.FaultKind.{FaultKind}
use Rattle.avl_values.specs.declared.fault.FaultKind.TheVariants.{UnknownCodec}
use Rattle.layout.specs.Fields.{number, followed_by}
use Rattle.avl_values.specs.declared.width.Width.{Width}
use Rattle.avl_values.specs.declared.width.Width.TheVariants.{W1, W2, W4, W8}
use Rattle.field_machine.specs.Places.{Follows, turns}
use Rattle.field_machine.specs.declared.left.Left.{Left}
use Rattle.field_machine.specs.declared.left.Left.TheVariants as left
use Rattle.field_machine.proofs.Fields.{turns_few}
use Rattle.record_layout.specs.declared.part.Part.{Part}
use Rattle.record_layout.specs.declared.part.Part.TheVariants.{Plain, Total, Pairs, Triples}
use Rattle.layout.proofs.Following.{follow_done, follow_rule, follow_after}
use Rattle.record_layout.specs.declared.head.PacketHead.{PacketHead}
use Rattle.record_layout.specs.PacketRows.{packet_rows, codec_rule, with_codec}
use Rattle.record_layout.specs.RecordRows.{lone_record}
use Rattle.record_layout.proofs.Following.{record_follows}
use Rattle.record_codecs.specs.declared.place.PacketPlace.{PacketPlace}
use Rattle.record_codecs.specs.declared.place.PacketPlace.TheVariants as cursor
use Rattle.record_codecs.specs.declared.in_record.InRecord.{InRecord}
use Rattle.record_codecs.specs.declared.in_record.InRecord.TheVariants as at
use Rattle.record_codecs.specs.CursorLaws.{in_width}
use Rattle.record_codecs.specs.RecordCursor.{first_width_of, rows_in, rows_from, weight_in, width_in, FollowsIn}
use Rattle.record_codecs.specs.BodyCursor.{left_of, rows_at, records_left, StandsAt}

-- The codec id.

pub known_codec : (field : List ℕ) (value : ℕ) (codec : Codec) → number field ≡ value → Some codec ≡ codec_of value → Follows StandsAt packet_rows field (Ok (cursor.Count codec))
unfolding packet_rows
known_codec field value codec n e =
    let same : codec_of (number field) ≡ Some codec = ap codec_of n ∙ sym e in
    (ap codec_rule same, ap with_codec same)

pub unknown_codec : (field : List ℕ) (value : ℕ) → number field ≡ value → None ≡ codec_of value → Follows StandsAt packet_rows field (Err UnknownCodec)
unfolding packet_rows
unknown_codec field value n e = ap codec_rule (ap codec_of n ∙ sym e)

-- The records.

pub first_rows : (head : PacketHead) (left less : ℕ) (r : InRecord) → left ≡ suc less → rows_in r ≡ lone_record head.codec → followed_by (rows_in r) (λ _. records_left head less) ≡ records_left head left
first_rows head left less r n rows =
    ap (λ k. followed_by k (λ _. records_left head less)) rows ∙ record_follows head.codec (records_left head less) ∙ ap (λ k. records_left head k) (sym n)

pub field_fails : (head : PacketHead) (left : ℕ) (r : InRecord) (field : List ℕ) (kind : FaultKind) → FollowsIn (rows_in r) field (Err kind) → Follows StandsAt (rows_at (cursor.Record head left r)) field (Err kind)
field_fails head left r field kind fails = follow_rule (rows_in r) (λ _. records_left head left) (width_in r) field (in_width r) ∙ fails

pub field_follows : (head : PacketHead) (left : ℕ) (r : InRecord) (field : List ℕ) (next : Option InRecord) (to : PacketPlace) → FollowsIn (rows_in r) field (Ok next)
    → rows_at to ≡ followed_by (rows_from next) (λ _. records_left head left) → Follows StandsAt (rows_at (cursor.Record head left r)) field (Ok to)
field_follows head left r field next to follows rows = (
  follow_rule (rows_in r) (λ _. records_left head left) (width_in r) field (in_width r) ∙ follows.0,
  follow_after (rows_in r) (λ _. records_left head left) (width_in r) field (in_width r) ∙ ap (λ k. followed_by k (λ _. records_left head left)) follows.1 ∙ sym rows,
)

pub after_records : (head : PacketHead) (left : ℕ) (to : PacketPlace) → rows_at to ≡ records_left head left → rows_at to ≡ followed_by (rows_from None) (λ _. records_left head left)
after_records head left to e = e ∙ sym (follow_done (tt {0}) (λ _. records_left head left))

-- Only a field of no bytes takes a turn, and in a record only a text has none.

width_turns : (w : Width) → turns (let l : Left PacketHead = left.Field (bytes_of w) in l) ≡ 0
width_turns W1 = refl
width_turns W2 = refl
width_turns W4 = refl
width_turns W8 = refl

part_turns : (p : Part) → turns (let l : Left PacketHead = left.Field (first_width_of p) in l) ≡ 0
part_turns (Plain f w) = width_turns w
part_turns (Total w) = width_turns w
part_turns (Pairs c i w) = width_turns c
part_turns (Triples c i w) = width_turns c

pub field_turns : (head : PacketHead) (n : ℕ) (r : InRecord) → turns (left_of (cursor.Record head n r)) ≤ weight_in r
field_turns head n (at.Part r p) = omega (arith, part_turns p)
field_turns head n (at.Id r p) = omega (arith, width_turns p.id)
field_turns head n (at.Value r p) = omega (arith, width_turns p.value)
field_turns head n (at.TextId r t) = omega (arith, width_turns t.id)
field_turns head n (at.TextLength r t) = omega (arith, width_turns t.length)
field_turns head n (at.Text r t len) = turns_few (left_of (cursor.Record head n (at.Text r t len)))
