-- A datagram's lines.
use Rattle.std.proofs.Common.{◌≡◌, ℕ, List, ◌++◌, length, sym, ap, ◌∙◌, append_assoc}
use Rattle.layout.specs.Rows.{Verdict}
use Rattle.record_layout.specs.Body.{IsBody}
use Rattle.record_layout.specs.Packet.{IsPacket}
use Rattle.record_layout.specs.PacketRows.{packet_verdict}
use Rattle.record_layout.specs.declared.head.PacketHead.{PacketHead}
use Rattle.record_layout.proofs.Exports.{body_is_whole}
use Rattle.show_lines.specs.PacketLines.{packet_lines}
use Rattle.fmb_show.specs.ItemLines.{head_lines}

-- the lines of its packet, after its own
pub packet_printed : (head : PacketHead) (body first before between out : List ℕ) (line : ℕ) → IsBody head body → between ≡ before ++ first
    → ((rs : List (List ℕ)) → IsPacket head.codec rs body → out ≡ between ++ packet_lines head body line)
    → out ≡ before ++ (first ++ head_lines (packet_verdict (length body) body) body line)
packet_printed head body first before between out line b own lines =
    lines b.records b.packet
    ∙ ap (λ (o : List ℕ). o ++ packet_lines head body line) own
    ∙ append_assoc before first (packet_lines head body line)
    ∙ ap (λ (v : Verdict PacketHead). before ++ (first ++ head_lines v body line)) (sym (body_is_whole head body b))
