use Rattle.std.proofs.Common.{◌++◌, ap, ◌∙◌}
use Rattle.record_writing.proofs.Pieces.{pieces_are_record}
use Rattle.record_writing.specs.Pieces.{head_bytes, event_bytes, elements_bytes}
use Rattle.record_writing.proofs.Joins.{written3}
use Rattle.record_writing.proofs.writing.put_record.Goals as goal

pub returns : goal.returns
returns c =
    let r = c.args.value.now in
    let codec = c.args.codec in
    let written = written3 c.args.out.now.items c.put_head.new.out.items c.put_event.new.out.items c.put_elements.new.out.items (head_bytes r) (event_bytes codec r) (elements_bytes codec r)
    c.put_head.ensures.bytes c.put_event.ensures.bytes c.put_elements.ensures.bytes in
    pieces_are_record codec r c.put_elements.new.out.items (written ∙ ap (λ o. o ++ (head_bytes r ++ (event_bytes codec r ++ elements_bytes codec r))) c.requires.empty)
    c.put_head.ensures.fit c.put_event.ensures.fit c.put_elements.ensures.fit c.requires.in_codec
