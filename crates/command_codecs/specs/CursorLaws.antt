-- A command's cursor gives the width of the next row, and its end where the rows end.
use Rattle.std.proofs.Common.{◌≡◌, ℕ, Some, refl, ap}
use Rattle.layout.specs.Rows.{done}
use Rattle.layout.specs.Next.{width_of}
use Rattle.field_machine.specs.declared.left.Left.TheVariants as left
use Rattle.command_layout.specs.declared.way.Way.{Way}
use Rattle.command_layout.specs.CommandRows.{command_rows, imei_rows, kind_rows, pair_rows, size_rows, text_rows}
use Rattle.command_layout.specs.Values.{CommandValue}
use Rattle.command_codecs.specs.declared.cursor.NextField.{NextField}
use Rattle.command_codecs.specs.declared.cursor.NextField.TheVariants as at
use Rattle.command_codecs.specs.CommandCursor.{left_of, rows_from}

pub width_is : (way : Way) (total w : ℕ) (cursor : NextField) (v : CommandValue) → left_of cursor ≡ left.Field w → width_of (rows_from way total cursor v) ≡ Some w
unfolding command_rows kind_rows size_rows imei_rows pair_rows text_rows
width_is way total w at.Codec v e = let k : 1 ≡ w = cc in ap (λ x. Some x) k
width_is way total w (at.Quantity row) v e = let k : 1 ≡ w = cc in ap (λ x. Some x) k
width_is way total w (at.Kind row) v e = let k : 1 ≡ w = cc in ap (λ x. Some x) k
width_is way total w (at.Size row) v e = let k : 4 ≡ w = cc in ap (λ x. Some x) k
width_is way total w (at.Time imei text) v e = let k : 4 ≡ w = cc in ap (λ x. Some x) k
width_is way total w (at.FirstDigit text) v e = let k : 1 ≡ w = cc in ap (λ x. Some x) k
width_is way total w (at.Digits behind text) v e = let k : 1 ≡ w = cc in ap (λ x. Some x) k
width_is way total w (at.Text text) v e = let k : text ≡ w = cc in ap (λ x. Some x) k
width_is way total w at.LastQuantity v e = let k : 1 ≡ w = cc in ap (λ x. Some x) k
width_is way total w at.End v e = absurd (cc)

pub at_end : (way : Way) (total : ℕ) (cursor : NextField) (v : CommandValue) (head : Unit {0}) → left_of cursor ≡ left.Nothing head → rows_from way total cursor v ≡ done v
at_end way total at.Codec v head e = absurd (cc)
at_end way total (at.Quantity row) v head e = absurd (cc)
at_end way total (at.Kind row) v head e = absurd (cc)
at_end way total (at.Size row) v head e = absurd (cc)
at_end way total (at.Time imei text) v head e = absurd (cc)
at_end way total (at.FirstDigit text) v head e = absurd (cc)
at_end way total (at.Digits behind text) v head e = absurd (cc)
at_end way total (at.Text text) v head e = absurd (cc)
at_end way total at.LastQuantity v head e = absurd (cc)
at_end way total at.End v head e = refl
