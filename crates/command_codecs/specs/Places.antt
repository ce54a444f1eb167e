-- Where in a command's body the machine and the loop stand.
use Rattle.std.proofs.Common.{◌≡◌, ℕ, refl, sym, subst}
use Rattle.layout.specs.Rows.{Rows}
use Rattle.field_machine.specs.declared.left.Left.{Left}
use Rattle.field_machine.specs.declared.left.Left.TheVariants as left
use Rattle.field_machine.specs.Places.{Leaves}
use Rattle.command_layout.specs.declared.way.Way.{Way}
use Rattle.command_layout.specs.Values.{CommandValue}
use Rattle.command_codecs.specs.declared.cursor.NextField.{NextField}
use Rattle.command_codecs.specs.declared.place.CommandPlace.{CommandPlace}
use Rattle.command_codecs.specs.CommandCursor.{left_of, rows_from}
use Rattle.command_codecs.specs.CursorLaws.{width_is, at_end}

abbrev pub place_left : CommandPlace → Left (Unit {0})
place_left c = left_of c.at

-- the rows are those after what some fields have said
abbrev pub StandsAt : CommandPlace → Rows CommandValue → Type 0
StandsAt c here = (v : CommandValue) × (here ≡ rows_from c.way c.total c.at v)

-- the code says nothing of a whole command
abbrev pub SaysNothing : Unit {0} → CommandValue → Type 0
SaysNothing head v = Unit {0}

leaves_as : (way : Way) (total : ℕ) (cursor : NextField) (v : CommandValue) (l : Left (Unit {0})) → left_of cursor ≡ l → Leaves SaysNothing l (rows_from way total cursor v)
leaves_as way total cursor v (left.Field w) is = width_is way total w cursor v is
leaves_as way total cursor v (left.Nothing head) is = (v, at_end way total cursor v head is, tt)

pub place_leaves : (c : CommandPlace) (here : Rows CommandValue) → StandsAt c here → Leaves SaysNothing (place_left c) here
place_leaves c here (v, e) = subst (λ r. Leaves SaysNothing (place_left c) r) (sym e) (leaves_as c.way c.total c.at v (place_left c) refl)
