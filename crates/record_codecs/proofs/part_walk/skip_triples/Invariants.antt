use Rattle.layout.specs.Fields.{times}
use Rattle.layout.specs.Rows.{Rows}
use Rattle.record_layout.specs.RecordRows.{triple_rows}
use Rattle.record_codecs.specs.PartWalk.{EndsWith}
use Rattle.record_codecs.specs.RecordCursor.{Nothing}
use Rattle.record_codecs.proofs.part_walk.skip_triples.Given as goal

abbrev pub invariant-loop-left : goal.invariant-loop-left
invariant-loop-left l = (rows : Rows Nothing) → EndsWith (times l.count (triple_rows l.id l.length) rows) l.bytes (times l.left (triple_rows l.id l.length) rows) l.rest

abbrev pub decreases-loop-left : goal.decreases-loop-left
decreases-loop-left l = l.left
