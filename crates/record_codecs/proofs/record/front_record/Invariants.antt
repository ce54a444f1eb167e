use Rattle.std.proofs.Common.{length}
use Rattle.record_layout.specs.RecordRows.{lone_record}
use Rattle.record_codecs.specs.PartWalk.{EndsWith, rows_left}
use Rattle.record_codecs.proofs.record.front_record.Given as goal

abbrev pub invariant-loop-part : goal.invariant-loop-part
invariant-loop-part l = EndsWith (lone_record l.fn.codec) l.bytes (rows_left l.left l.walk) l.walk.rest.now

abbrev pub decreases-loop-part : goal.decreases-loop-part
decreases-loop-part l = length l.left
