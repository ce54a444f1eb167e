-- Where in a frame's body the next field stands.
use Rattle.std.specs.Prelude.{◌≡◌}
use Rattle.layout.specs.Rows.{Rows}
use Rattle.layout.specs.MappedRows.{map_value}
use Rattle.field_machine.specs.declared.left.Left.{Left}
use Rattle.field_machine.specs.declared.left.Left.TheVariants as left
use Rattle.record_layout.specs.declared.head.PacketHead.{PacketHead}
use Rattle.record_codecs.specs.BodyCursor as packet
use Rattle.command_layout.specs.Values.{CommandValue}
use Rattle.command_codecs.specs.Places as command
use Rattle.frame_layout.specs.FrameBodies.{body_kind_rows}
use Rattle.frame_layout.specs.declared.body_kind.BodyKind.{BodyKind}
use Rattle.frame_layout.specs.declared.body_kind.BodyKind.TheVariants.{Packet, Command}
use Rattle.frame_channel.specs.declared.body_place.BodyPlace.{BodyPlace}
use Rattle.frame_channel.specs.declared.body_place.BodyPlace.TheVariants as at

abbrev pub says_command : CommandValue → BodyKind
says_command v = Command

-- what is left of a body of a kind
abbrev pub left_with : {H : Type 0} → (H → BodyKind) → Left H → Left BodyKind
left_with kind (left.Field width) = left.Field width
left_with kind (left.Nothing head) = left.Nothing (kind head)

abbrev pub left_in : BodyPlace → Left BodyKind
left_in (at.Codec way total) = left.Field 1
left_in (at.Packet place) = left_with Packet (packet.left_of place)
left_in (at.Command place) = left_with (λ _. Command) (command.place_left place)

-- the rows are those that are left of a data body or of a command, and then say the body's kind
abbrev pub StandsAt : BodyPlace → Rows BodyKind → Type 0
StandsAt (at.Codec way total) here = here ≡ body_kind_rows way total
StandsAt (at.Packet place) here = (rows : Rows PacketHead) × packet.StandsAt place rows × (here ≡ map_value Packet rows)
StandsAt (at.Command place) here = (rows : Rows CommandValue) × command.StandsAt place rows × (here ≡ map_value says_command rows)

-- the code says a body's kind
abbrev pub SaysKind : BodyKind → BodyKind → Type 0
SaysKind kind v = v ≡ kind
