use Rattle.std.proofs.Common.{refl, sym, ap, subst, ◌∙◌}
use Rattle.layout.specs.Next.{rows_after}
use Rattle.field_machine.specs.Places.{Follows}
use Rattle.field_machine.specs.declared.left.Left.TheVariants as left
use Rattle.record_layout.specs.PacketRows.{packet_rows}
use Rattle.command_layout.specs.declared.way.Way.{Way}
use Rattle.frame_layout.specs.FrameBodies.{body_kind_rows, command_body_rows}
use Rattle.frame_channel.specs.BodyPlaces.{StandsAt}
use Rattle.frame_channel.proofs.BodyPlaces.{command_begins, packet_begins}
use Rattle.frame_channel.proofs.body_place.after_codec.Goals as goal

pub returns-in-Ok : goal.returns-in-Ok
returns-in-Ok c here field one reads is =
    let up = is ∙ ap (λ (w : Way). body_kind_rows w c.args.total) c.in-Up.is in
    let f = c.in-Ok.ensures.follows packet_rows field refl (ap (λ k. left.Field k) (sym one)) reads in
    let b = packet_begins c.args.total here field up f.0 in
    (b.0, (rows_after packet_rows field, f.1, b.1))

pub returns-in-Err : goal.returns-in-Err
returns-in-Err c here field one reads is =
    let up = is ∙ ap (λ (w : Way). body_kind_rows w c.args.total) c.in-Up.is in
    let fails = c.in-Err.ensures.follows packet_rows field refl (ap (λ k. left.Field k) (sym one)) reads in
    let r = c.after_command_codec.result in
    let follows = c.after_command_codec.ensures (command_body_rows c.args.way c.args.total) field one reads refl in
    command_begins c.args.total here field c.in-Err.field-0 r up fails (subst (λ (w : Way). Follows StandsAt (command_body_rows w c.args.total) field r) c.in-Up.is follows)
