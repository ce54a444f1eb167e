use Rattle.std.proofs.Common.{sym, ap, ◌∙◌}
use Rattle.layout.specs.Next.{rows_after}
use Rattle.field_machine.specs.declared.left.Left.TheVariants as left
use Rattle.field_machine.proofs.Fields.{width_is}
use Rattle.command_layout.specs.CommandRows.{command_rows}
use Rattle.command_codecs.specs.Places.{SaysNothing, place_leaves, place_left}
use Rattle.frame_channel.specs.BodyPlaces.{says_command}
use Rattle.frame_channel.proofs.BodyPlaces.{mapped_breaks, mapped_on}
use Rattle.frame_channel.proofs.body_place.after_command_codec.Goals as goal

pub returns-in-Ok : goal.returns-in-Ok
returns-in-Ok c here field one reads is =
    let rows = command_rows c.args.way c.args.total in
    let first = c.first.ensures in
    let f = c.in-Ok.ensures.follows rows field first.stands (first.begins ∙ ap (λ k. left.Field k) (sym one)) reads in
    let on = mapped_on says_command 1 rows here field (width_is SaysNothing (place_left c.first.result) 1 rows (place_leaves c.first.result rows first.stands) first.begins) is f.0 in
    (on.0, (rows_after rows field, f.1, on.1))

pub returns-in-Err : goal.returns-in-Err
returns-in-Err c here field one reads is =
    let rows = command_rows c.args.way c.args.total in
    let first = c.first.ensures in
    let f = c.in-Err.ensures.follows rows field first.stands (first.begins ∙ ap (λ k. left.Field k) (sym one)) reads in
    mapped_breaks says_command 1 c.in-Err.kind rows here field (width_is SaysNothing (place_left c.first.result) 1 rows (place_leaves c.first.result rows first.stands) first.begins) is f
