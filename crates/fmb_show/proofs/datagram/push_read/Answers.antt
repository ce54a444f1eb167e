use Rattle.std.proofs.lemmas.Result.{on_ok_weaker}
use Rattle.fmb_show.proofs.DatagramPrints.{packet_printed}
use Rattle.fmb_show.proofs.datagram.push_read.Goals as goal

pub returns-in-Ok : goal.returns-in-Ok
returns-in-Ok c =
    on_ok_weaker _ (packet_printed c.in-Ok.head c.args.datagram.now.body.now _ _ _ _ c.args.line c.in-Ok.ensures.accepted c.in_ok-push_line.ensures.ok) c.push_packet_lines.ensures.ok
