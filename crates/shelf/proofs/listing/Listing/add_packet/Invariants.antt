use Rattle.record_codecs.specs.Views.{records_left}
use Rattle.record_layout.specs.RecordsOf.{records_of}
use Rattle.shelf.proofs.Stages.{Staging}
use Rattle.shelf.proofs.listing.Listing.add_packet.Given as goal

abbrev pub invariant-loop-bytes : goal.invariant-loop-bytes
invariant-loop-bytes l = Staging l.initial.self l.imei l.head.codec (records_of l.body) l.self l.places.items (records_left l.bytes-iterator)
