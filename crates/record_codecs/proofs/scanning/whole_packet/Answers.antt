use Rattle.std.proofs.Common.{arith, get_or, refl, sym}
use Rattle.record_layout.proofs.PacketFills.{id_from}
use Rattle.record_codecs.proofs.FrontRecords.{packet_is_whole}
use Rattle.record_codecs.proofs.scanning.whole_packet.Goals as goal

pub returns-then-behind-count : goal.returns-then-behind-count
returns-then-behind-count c =
    let body = c.args.body.now in
    packet_is_whole c.in_ok-codec.codec (get_or body 1 0) c.split_at.result.1.now c.in_ok-behind.behind.now body (omega (arith, c.if-body-lt4.false))
    (id_from (get_or body 0 0) c.in_ok-codec.codec (sym c.in_ok-codec.ensures)) refl c.split_at.ensures.back c.in_ok-behind.ensures (omega (arith, c.if-count-gt0.true)) (omega (arith, c.type_inv.body 1))
    (omega (arith, c.if-behind-eq1.true)) (omega (arith, c.if-behind-count.true))
