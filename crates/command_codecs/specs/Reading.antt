-- Where in a command's body the loop stands that keeps what the command says.
use Rattle.std.proofs.Common.{◌≡◌, ℕ, length, refl, sym, ap, subst}
use Rattle.layout.specs.Rows.{Rows}
use Rattle.field_machine.specs.declared.left.Left.{Left}
use Rattle.field_machine.specs.declared.left.Left.TheVariants as left
use Rattle.field_machine.specs.Places.{Leaves}
use Rattle.command_layout.specs.declared.way.Way.{Way}
use Rattle.command_layout.specs.Values.{CommandValue}
use Rattle.command_codecs.specs.declared.cursor.NextField.{NextField}
use Rattle.command_codecs.specs.declared.reading.Heard.{Heard}
use Rattle.command_codecs.specs.declared.reading.Hearing.{Hearing}
use Rattle.command_codecs.specs.CommandCursor.{left_of, rows_from}
use Rattle.command_codecs.specs.CursorLaws.{width_is, at_end}
use Rattle.command_codecs.specs.Hearing.{Says}

abbrev pub left_with : Left (Unit {0}) → Heard → Left Heard
left_with (left.Field w) heard = left.Field w
left_with (left.Nothing head) heard = left.Nothing heard

pub left_as : (l : Left (Unit {0})) (heard : Heard) (w : ℕ) → left_with l heard ≡ left.Field w → l ≡ left.Field w
left_as (left.Field n) heard w is = let k : n ≡ w = cc in ap (λ x. left.Field x) k
left_as (left.Nothing head) heard w is = absurd (cc)

abbrev pub heard_of : Hearing → Heard
heard_of h = record { said = h.said; text = h.text }

abbrev pub hearing_left : Hearing → Left Heard
hearing_left h = left_with (left_of h.at) (heard_of h)

-- what was heard is what the command says before its text, and the text's length
abbrev pub SaysHeard : Heard → CommandValue → Type 0
SaysHeard heard v = Says heard.said v × (length v.text ≡ heard.text)

-- the rows are those after what was heard
abbrev pub HearsAt : Hearing → Rows CommandValue → Type 0
HearsAt h here = (v : CommandValue) × (here ≡ rows_from h.way h.total h.at v) × SaysHeard (heard_of h) v

leaves_as : (way : Way) (total : ℕ) (cursor : NextField) (v : CommandValue) (heard : Heard) (l : Left (Unit {0})) → SaysHeard heard v → left_of cursor ≡ l → Leaves SaysHeard (left_with l heard) (rows_from way total cursor v)
leaves_as way total cursor v heard (left.Field w) says is = width_is way total w cursor v is
leaves_as way total cursor v heard (left.Nothing head) says is = (v, at_end way total cursor v head is, says)

pub hearing_leaves : (h : Hearing) (here : Rows CommandValue) → HearsAt h here → Leaves SaysHeard (hearing_left h) here
hearing_leaves h here (v, e, says) = subst (λ r. Leaves SaysHeard (hearing_left h) r) (sym e) (leaves_as h.way h.total h.at v (heard_of h) (left_of h.at) says refl)
