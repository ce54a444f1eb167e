use Rattle.std.proofs.Common.{ℕ, List, ◌++◌}
use Rattle.record_codecs.specs.Views.{records_left}
use Rattle.record_layout.specs.Packet.{IsPacket}
use Rattle.show_lines.specs.Extends.{Extends}
use Rattle.show_lines.specs.PacketLines.{packet_lines}
use Rattle.show_lines.proofs.PacketPushed.{Missing}
use Rattle.show_lines.proofs.packet.push_all.Given as goal

-- what was there is there still, and of a packet's lines those of the records that are left are missing
abbrev pub invariant-loop-record : goal.invariant-loop-record
invariant-loop-record l =
    Extends l.fn.out.items l.out.items
    × ((rs : List (List ℕ)) → IsPacket l.head.codec rs l.body → Missing l.head.codec l.line (records_left l.record-iterator) l.out.items (l.fn.out.items ++ packet_lines l.head l.body l.line))
