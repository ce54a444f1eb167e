-- The types of this crate as contracts see them.
use Rattle.datagrams.specs.declared.datagram.Datagram.{Datagram}
use Rattle.datagrams.specs.declared.reply.Reply.{Reply}
use Rattle.datagrams.specs.Values.{DatagramValue, ReplyValue}

abbrev pub value_of : Datagram → DatagramValue
value_of d = record { packet = d.packet; unused = d.unused; avl_packet = d.avl_packet; imei = d.imei; body = d.body.now }

abbrev pub reply_value_of : Reply → ReplyValue
reply_value_of r = record { packet = r.packet; unused = r.unused; avl_packet = r.avl_packet; count = r.count }
