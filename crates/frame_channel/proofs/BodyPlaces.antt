-- What follows in rows that say another value, and in a body of one of two kinds.
use Rattle.std.proofs.Common.{◌≡◌, ℕ, List, Some, None, Result, Ok, Err, refl, sym, ap, subst, ◌∙◌}
use Rattle.avl_values.specs.declared.fault.FaultKind.{FaultKind}
use Rattle.layout.specs.Rows.{Rows, done}
use Rattle.layout.specs.EitherRows.{either_rest, either_rule}
use Rattle.layout.specs.MappedRows.{map_value}
use Rattle.layout.specs.Next.{rule_of, rows_after, width_of}
use Rattle.layout.proofs.EitherLaws.{either_rest_is, either_rule_is}
use Rattle.layout.proofs.Following.{follow_after, follow_rule}
use Rattle.field_machine.specs.Places.{Follows}
use Rattle.field_machine.specs.declared.left.Left.{Left}
use Rattle.field_machine.specs.declared.left.Left.TheVariants as left
use Rattle.record_layout.specs.PacketRows.{packet_rows}
use Rattle.record_codecs.specs.CursorLaws.{packet_width}
use Rattle.command_layout.specs.declared.way.Way.TheVariants.{Up}
use Rattle.frame_layout.specs.FrameBodies.{body_kind_rows, command_body_rows}
use Rattle.frame_layout.specs.declared.body_kind.BodyKind.{BodyKind}
use Rattle.frame_layout.specs.declared.body_kind.BodyKind.TheVariants.{Packet}
use Rattle.frame_layout.proofs.KindFills.{data_width}
use Rattle.frame_channel.specs.BodyPlaces.{StandsAt, left_with}
use Rattle.frame_channel.specs.declared.body_place.BodyPlace.{BodyPlace}

-- Rows that say a body's kind.

pub mapped_on : {V : Type 0} (says : V → BodyKind) (w : ℕ) (rows : Rows V) (here : Rows BodyKind) (field : List ℕ) → width_of rows ≡ Some w → here ≡ map_value says rows → rule_of rows field ≡ None
    → (rule_of here field ≡ None) × (rows_after here field ≡ map_value says (rows_after rows field))
mapped_on says w rows here field width is passes = (
  ap (λ r. rule_of r field) is ∙ follow_rule rows (λ v. done (says v)) w field width ∙ passes,
  ap (λ r. rows_after r field) is ∙ follow_after rows (λ v. done (says v)) w field width,
)

pub mapped_breaks : {V : Type 0} (says : V → BodyKind) (w : ℕ) (kind : FaultKind) (rows : Rows V) (here : Rows BodyKind) (field : List ℕ) → width_of rows ≡ Some w → here ≡ map_value says rows → rule_of rows field ≡ Some kind
    → rule_of here field ≡ Some kind
mapped_breaks says w kind rows here field width is fails = ap (λ r. rule_of r field) is ∙ follow_rule rows (λ v. done (says v)) w field width ∙ fails

-- what is left of a body of a kind
pub field_left : {H : Type 0} (kind : H → BodyKind) (l : Left H) (w : ℕ) → left_with kind l ≡ left.Field w → l ≡ left.Field w
field_left kind (left.Field n) w is = let k : n ≡ w = cc in ap (λ x. left.Field x) k
field_left kind (left.Nothing head) w is = absurd (cc)

-- The codec id.

-- up, where it is a data body's
pub packet_begins : (total : ℕ) (here : Rows BodyKind) (field : List ℕ) → here ≡ body_kind_rows Up total → rule_of packet_rows field ≡ None
    → (rule_of here field ≡ None) × (rows_after here field ≡ map_value Packet (rows_after packet_rows field))
packet_begins total here field is passes =
    let first = map_value Packet packet_rows in
    let others = command_body_rows Up total in
    let m = mapped_on Packet 1 packet_rows first field packet_width refl passes in (
      ap (λ r. rule_of r field) is ∙ either_rule_is first others 1 field data_width ∙ ap (λ o. either_rule o (rule_of others field)) m.0,
      ap (λ r. rows_after r field) is ∙ either_rest_is first others 1 field data_width ∙ ap (λ o. either_rest o (rows_after first field) (rows_after others field)) m.0 ∙ m.1,
    )

follows_as : (one other : Rows BodyKind) (field : List ℕ) (r : Result BodyPlace FaultKind) → rule_of one field ≡ rule_of other field → rows_after one field ≡ rows_after other field → Follows StandsAt other field r → Follows StandsAt one field r
follows_as one other field (Ok next) rule rest (passes, stands) = (rule ∙ passes, subst (StandsAt next) (sym rest) stands)
follows_as one other field (Err kind) rule rest fails = rule ∙ fails

-- and where it isn't, what follows in a command
pub command_begins : (total : ℕ) (here : Rows BodyKind) (field : List ℕ) (kind : FaultKind) (r : Result BodyPlace FaultKind) → here ≡ body_kind_rows Up total → rule_of packet_rows field ≡ Some kind → Follows StandsAt (command_body_rows Up total) field r
    → Follows StandsAt here field r
command_begins total here field kind r is fails follows =
    let first = map_value Packet packet_rows in
    let others = command_body_rows Up total in
    let m = mapped_breaks Packet 1 kind packet_rows first field packet_width refl fails in
    follows_as here others field r
    (ap (λ r. rule_of r field) is ∙ either_rule_is first others 1 field data_width ∙ ap (λ o. either_rule o (rule_of others field)) m)
    (ap (λ r. rows_after r field) is ∙ either_rest_is first others 1 field data_width ∙ ap (λ o. either_rest o (rows_after first field) (rows_after others field)) m)
    follows
