use Rattle.std.proofs.Common.{◌≡◌, ◌++◌, map}
use Rattle.record_layout.specs.RecordsOf.{records_of}
use Rattle.record_codecs.specs.Views.{records_left}
use Rattle.archive_journal.proofs.Packets.{in_codec}
use Rattle.archive_journal.proofs.body.read_records.Given as goal

abbrev pub invariant-loop-record : goal.invariant-loop-record
invariant-loop-record l = l.read.items ++ in_codec l.head.codec (records_left l.record-iterator) ≡ in_codec l.head.codec (map (λ r. r.bytes) (records_of l.packet))
