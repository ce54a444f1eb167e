use Rattle.std.proofs.Common.{length, sym, ap, subst, ◌∙◌}
use Rattle.layout.specs.Next.{rows_after}
use Rattle.field_machine.proofs.Fields.{width_is}
use Rattle.record_codecs.specs.BodyCursor as packet
use Rattle.record_codecs.specs.CursorLaws as packet_laws
use Rattle.command_codecs.specs.Places as command
use Rattle.frame_layout.specs.declared.body_kind.BodyKind.TheVariants.{Packet, Command}
use Rattle.frame_channel.specs.BodyPlaces.{StandsAt, left_in, says_command}
use Rattle.frame_channel.specs.declared.body_place.BodyPlace.{BodyPlace}
use Rattle.frame_channel.proofs.BodyPlaces.{field_left, mapped_breaks, mapped_on}
use Rattle.frame_channel.proofs.body_place.BodyPlaceCursor.next.Goals as goal

pub returns-in-Ok-clause-follows : goal.returns-in-Ok-clause-follows
returns-in-Ok-clause-follows c here field stand width reads =
    let place = c.in-Packet.place in
    let (rows, at, is) = subst (λ (p : BodyPlace). StandsAt p here) c.in-Packet.is stand in
    let left = field_left Packet (packet.left_of place) (length field) (ap left_in (sym c.in-Packet.is) ∙ width) in
    let f = c.in-Ok.ensures.follows rows field at left reads in
    let on = mapped_on Packet (length field) rows here field (width_is packet.SaysHead (packet.left_of place) (length field) rows (packet_laws.body_leaves place rows at) left) is f.0 in
    (on.0, (rows_after rows field, f.1, on.1))

pub returns-in-Err-clause-follows : goal.returns-in-Err-clause-follows
returns-in-Err-clause-follows c here field stand width reads =
    let place = c.in-Packet.place in
    let (rows, at, is) = subst (λ (p : BodyPlace). StandsAt p here) c.in-Packet.is stand in
    let left = field_left Packet (packet.left_of place) (length field) (ap left_in (sym c.in-Packet.is) ∙ width) in
    let f = c.in-Err.ensures.follows rows field at left reads in
    mapped_breaks Packet (length field) c.in-Err.kind rows here field (width_is packet.SaysHead (packet.left_of place) (length field) rows (packet_laws.body_leaves place rows at) left) is f

pub returns-in-Ok-next-clause-follows : goal.returns-in-Ok-next-clause-follows
returns-in-Ok-next-clause-follows c here field stand width reads =
    let place = c.in-Command.place in
    let (rows, at, is) = subst (λ (p : BodyPlace). StandsAt p here) c.in-Command.is stand in
    let left = field_left (λ _. Command) (command.place_left place) (length field) (ap left_in (sym c.in-Command.is) ∙ width) in
    let f = c.in-Ok-next.ensures.follows rows field at left reads in
    let on = mapped_on says_command (length field) rows here field (width_is command.SaysNothing (command.place_left place) (length field) rows (command.place_leaves place rows at) left) is f.0 in
    (on.0, (rows_after rows field, f.1, on.1))

pub returns-in-Err-next-clause-follows : goal.returns-in-Err-next-clause-follows
returns-in-Err-next-clause-follows c here field stand width reads =
    let place = c.in-Command.place in
    let (rows, at, is) = subst (λ (p : BodyPlace). StandsAt p here) c.in-Command.is stand in
    let left = field_left (λ _. Command) (command.place_left place) (length field) (ap left_in (sym c.in-Command.is) ∙ width) in
    let f = c.in-Err-next.ensures.follows rows field at left reads in
    mapped_breaks says_command (length field) c.in-Err-next.kind rows here field (width_is command.SaysNothing (command.place_left place) (length field) rows (command.place_leaves place rows at) left) is f
