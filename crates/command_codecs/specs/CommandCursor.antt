-- What is left of a command's rows at a place of the code. The code keeps only what the later rows depend on; what the command
-- has said so far is a value beside it.
use Rattle.std.specs.Prelude.{◌≡◌, ◌+◌, ◌*◌, ◌/◌, ◌%◌, ℕ, suc, List, true, Option, Some, None, Result, Ok, Err}
use Rattle.avl_values.specs.declared.fault.FaultKind.{FaultKind}
use Rattle.layout.specs.Rows.{Rows, done}
use Rattle.layout.specs.Fields.{number, number_row}
use Rattle.layout.specs.Next.{rule_of, rows_after}
use Rattle.field_machine.specs.declared.left.Left.{Left}
use Rattle.field_machine.specs.declared.left.Left.TheVariants as left
use Rattle.command_layout.specs.declared.way.Way.{Way}
use Rattle.command_layout.specs.CommandRows.{command_rows, imei_rows, kind_rows, pair_rows, quantity_row, size_rows, text_rows}
use Rattle.command_layout.specs.Values.{CommandValue}
use Rattle.command_codecs.specs.declared.cursor.NextField.{NextField}
use Rattle.command_codecs.specs.declared.cursor.NextField.TheVariants as at
use Rattle.command_codecs.specs.Views.{row_is}

abbrev pub said : CommandValue → Option ℕ → Option ℕ → List ℕ → CommandValue
said v time imei text = record { codec = v.codec; kind = v.kind; time = time; imei = imei; text = text }

abbrev pub digits_of : Option ℕ → ℕ
digits_of (Some n) = n
digits_of None = 0

abbrev pub rows_from : Way → ℕ → NextField → CommandValue → Rows CommandValue
rows_from way total at.Codec v = command_rows way total
rows_from way total (at.Quantity row) v = quantity_row (kind_rows total (row_is row) v.codec)
rows_from way total (at.Kind row) v = kind_rows total (row_is row) v.codec
rows_from way total (at.Size row) v = size_rows total (row_is row) v.codec v.kind
rows_from way total (at.Time imei text) v = number_row 4 (λ _. None) (λ n. imei_rows imei (λ i. text_rows text (λ t. said v (Some n) i t)))
rows_from way total (at.FirstDigit text) v = imei_rows true (λ i. text_rows text (λ t. said v v.time i t))
rows_from way total (at.Digits behind text) v = pair_rows (suc behind) (digits_of v.imei) (λ n. text_rows text (λ t. said v v.time (Some n) t))
rows_from way total (at.Text text) v = text_rows text (λ t. said v v.time v.imei t)
rows_from way total at.LastQuantity v = quantity_row (done v)
rows_from way total at.End v = done v

-- the next field's width, if one is left
abbrev pub left_of : NextField → Left (Unit {0})
left_of at.Codec = left.Field 1
left_of (at.Quantity row) = left.Field 1
left_of (at.Kind row) = left.Field 1
left_of (at.Size row) = left.Field 4
left_of (at.Time imei text) = left.Field 4
left_of (at.FirstDigit text) = left.Field 1
left_of (at.Digits behind text) = left.Field 1
left_of (at.Text text) = left.Field text
left_of at.LastQuantity = left.Field 1
left_of at.End = left.Nothing tt

-- What a command has said once the field at this place says its value too. While the IMEI is read it is the number of the digits
-- so far.
abbrev pub heard : NextField → CommandValue → List ℕ → CommandValue
heard at.Codec v field = record v { codec = number field }
heard (at.Quantity row) v field = v
heard (at.Kind row) v field = record v { kind = number field }
heard (at.Size row) v field = record v { time = None; imei = None }
heard (at.Time imei text) v field = record v { time = Some (number field); imei = None }
heard (at.FirstDigit text) v field = record v { imei = Some (number field) }
heard (at.Digits behind text) v field = record v { imei = Some (digits_of v.imei * 100 + (number field / 16 * 10 + number field % 16)) }
heard (at.Text text) v field = record v { text = field }
heard at.LastQuantity v field = v
heard at.End v field = v

-- what the code answers to the field at a place
abbrev pub Follows : Way → ℕ → NextField → CommandValue → List ℕ → Result NextField FaultKind → Type 0
Follows way total at v field (Ok next) = (rule_of (rows_from way total at v) field ≡ None) × (rows_after (rows_from way total at v) field ≡ rows_from way total next (heard at v field))
Follows way total at v field (Err kind) = rule_of (rows_from way total at v) field ≡ Some kind
