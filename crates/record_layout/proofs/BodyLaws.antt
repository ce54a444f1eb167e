-- What the verdict on whole bytes says of them as a data body.
use Rattle.std.proofs.Common.{◌≡◌, ℕ, List, [], length, sym, ap, subst, ◌∙◌}
use Rattle.std.proofs.Math.Seq.{take-length}
use Rattle.std.proofs.lemmas.List.{append-nil, length-map}
use Rattle.avl_values.specs.Record.{Record}
use Rattle.layout.specs.Bytes.{AreBytes}
use Rattle.layout.specs.Rows.{whole}
use Rattle.record_layout.specs.declared.head.PacketHead.{PacketHead}
use Rattle.record_layout.specs.Body.{IsBody}
use Rattle.record_layout.specs.Packet.{IsPacket}
use Rattle.record_layout.specs.PacketRows.{packet_verdict}
use Rattle.record_layout.specs.RecordsOf.{count_of}
use Rattle.record_layout.proofs.ReadLaws.{packet_whole_verdict, records_read, whole_packet}

-- bytes that are judged to be a whole body are one
pub judged_body : (head : PacketHead) (body : List ℕ) → AreBytes body → packet_verdict (length body) body ≡ whole head (length body) → IsBody head body
judged_body head body p e =
    let w = whole_packet (length body) (length body) head body p e in
    record { records = w.0; packet = subst (IsPacket head.codec w.0) (take-length body) w.3; count = w.4 }

-- and a body is judged so
pub body_judged : (head : PacketHead) (body : List ℕ) → IsBody head body → packet_verdict (length body) body ≡ whole head (length body)
body_judged head body b =
    ap (packet_verdict (length body)) (sym (append-nil body)) ∙ packet_whole_verdict head.codec b.records body [] b.packet
    ∙ ap (λ n. (let says : PacketHead = record { codec = head.codec; count = n } in whole says (length body))) (sym b.count)

-- its number of records is that of the records that are read from it
pub body_counted : (head : PacketHead) (body : List ℕ) → IsBody head body → head.count ≡ count_of body
body_counted head body b = b.count ∙ sym (ap length (records_read head.codec b.records body b.packet) ∙ length-map b.records (λ (r : List ℕ). (let one : Record = record { codec = head.codec; bytes = r } in one)))
