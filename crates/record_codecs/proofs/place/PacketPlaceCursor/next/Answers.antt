use Rattle.std.proofs.Common.{◌≡◌, length, ap, ◌∙◌, sym, subst, arith}
use Rattle.field_machine.specs.Places.{Follows}
use Rattle.field_machine.specs.declared.left.Left.{Left}
use Rattle.field_machine.specs.declared.left.Left.TheVariants as left
use Rattle.field_machine.proofs.Fields.{same_width}
use Rattle.record_layout.specs.declared.head.PacketHead.{PacketHead}
use Rattle.record_codecs.specs.BodyCursor.{left_of, rows_at, StandsAt}
use Rattle.record_codecs.proofs.place.PacketPlaceCursor.next.Goals as goal

pub returns-in-Codec-clause-follows : goal.returns-in-Codec-clause-follows
returns-in-Codec-clause-follows c here field stand width reads =
    let first : ◌≡◌ {A = Left PacketHead} (left.Field 1) (left.Field (length field)) = ap left_of (sym c.in-Codec.is) ∙ width in
    let n : length field ≡ 1 = sym (same_width 1 (length field) first) in
    subst (λ r. Follows StandsAt r field c.after_codec_id.result) (sym (stand ∙ ap rows_at c.in-Codec.is)) (c.after_codec_id.ensures.follows field (reads (omega (arith, n))))
