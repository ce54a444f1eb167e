-- A place in a body gives the width of the next row, and its end where the rows end.
use Rattle.std.proofs.Common.{◌≡◌, refl, ap, ◌∙◌}
use Rattle.layout.specs.Rows.{Rows, done}
use Rattle.layout.specs.MappedRows.{map_value}
use Rattle.layout.specs.Next.{width_of}
use Rattle.layout.proofs.Following.{follow_done, follow_width}
use Rattle.field_machine.specs.Places.{Leaves}
use Rattle.field_machine.specs.declared.left.Left.{Left}
use Rattle.field_machine.specs.declared.left.Left.TheVariants as left
use Rattle.record_codecs.specs.BodyCursor as packet
use Rattle.record_codecs.specs.CursorLaws as packet_laws
use Rattle.command_codecs.specs.Places as command
use Rattle.frame_layout.specs.declared.body_kind.BodyKind.{BodyKind}
use Rattle.frame_layout.specs.declared.body_kind.BodyKind.TheVariants.{Packet, Command}
use Rattle.frame_layout.proofs.KindFills.{kind_width}
use Rattle.frame_channel.specs.BodyPlaces.{SaysKind, StandsAt, left_in, left_with, says_command}
use Rattle.frame_channel.specs.declared.body_place.BodyPlace.{BodyPlace}
use Rattle.frame_channel.specs.declared.body_place.BodyPlace.TheVariants as at

kind_leaves : {H V : Type 0} (says : H → V → Type 0) (kind : H → BodyKind) (of_value : V → BodyKind) → ((head : H) (v : V) → says head v → of_value v ≡ kind head) → (l : Left H) (rows : Rows V) (here : Rows BodyKind)
    → here ≡ map_value of_value rows → Leaves says l rows → Leaves SaysKind (left_with kind l) here
kind_leaves says kind of_value same (left.Field w) rows here is width = ap width_of is ∙ follow_width rows (λ v. done (of_value v)) w width
kind_leaves says kind of_value same (left.Nothing head) rows here is (v, end, s) = (of_value v, is ∙ ap (map_value of_value) end ∙ follow_done v (λ x. done (of_value x)), same head v s)

pub body_leaves : (place : BodyPlace) (here : Rows BodyKind) → StandsAt place here → Leaves SaysKind (left_in place) here
body_leaves (at.Codec way total) here is = ap width_of is ∙ kind_width way total
body_leaves (at.Packet place) here (rows, stands, is) = kind_leaves packet.SaysHead Packet Packet (λ head v e. ap (λ h. Packet h) e) (packet.left_of place) rows here is (packet_laws.body_leaves place rows stands)
body_leaves (at.Command place) here (rows, stands, is) = kind_leaves command.SaysNothing (λ _. Command) says_command (λ head v s. refl) (command.place_left place) rows here is (command.place_leaves place rows stands)
