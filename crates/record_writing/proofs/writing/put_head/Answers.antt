use Rattle.avl_values.specs.declared.width.Width.TheVariants.{W1, W8}
use Rattle.record_layout.specs.Spelling.{spell}
use Rattle.record_writing.specs.Pieces.{gps_bytes}
use Rattle.record_writing.proofs.Joins.{written3}
use Rattle.record_writing.proofs.writing.put_head.Goals as goal

pub returns-clause-bytes : goal.returns-clause-bytes
returns-clause-bytes c =
    let r = c.args.value.now in
    written3 c.args.out.now.items c.put.new.out.items c.put-2.new.out.items c.put_gps.new.out.items (spell W8 r.time) (spell W1 r.priority) (gps_bytes r.gps) c.put.ensures.bytes c.put-2.ensures.bytes c.put_gps.ensures.bytes
