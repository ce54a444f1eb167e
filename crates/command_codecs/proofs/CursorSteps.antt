-- A command's cursor, field by field.
use Rattle.std.proofs.Common.{◌≡◌, ℕ, length, suc, ◌+◌, ◌-◌, ◌*◌, ◌/◌, ◌%◌, ◌<◌, ◌≤◌, ◌&&◌, List, Bool, true, false, Some, None, Ok, Err, refl, sym, ap, ◌∙◌, arith, ◌==◌}
use Rattle.std.specs.Prelude.{nat_le}
use Rattle.std.proofs.lemmas.Bool.Decides.{nat_tests}
use Rattle.layout.specs.Rows.{Rows}
use Rattle.avl_values.specs.declared.fault.FaultKind.TheVariants.{CommandSize, CommandType, ImeiDigits, UnknownCodec}
use Rattle.layout.specs.Fields.{number, fault_unless}
use Rattle.command_layout.specs.declared.way.Way.{Way}
use Rattle.command_layout.specs.CommandRows.{command_rows, digits_rule, imei_rows, kind_rows, pair_rows, row_rule, size_rows, text_rows, time_rows, with_row}
use Rattle.command_layout.specs.Table.{is_among, least_size, row_of}
use Rattle.command_layout.specs.Values.{CommandValue}
use Rattle.command_codecs.specs.declared.cursor.NextField.TheVariants as at
use Rattle.command_codecs.specs.declared.row.Row.{Row}
use Rattle.command_codecs.specs.CommandCursor.{Follows, digits_of, left_of, rows_from, said}
use Rattle.field_machine.specs.declared.left.Left.{Left}
use Rattle.field_machine.specs.declared.left.Left.TheVariants as left
use Rattle.command_codecs.specs.declared.cursor.NextField.{NextField}
use Rattle.command_codecs.specs.Views.{kinds_of, row_is}

pub known_codec : (way : Way) (total value : ℕ) (row : Row) (v : CommandValue) (field : List ℕ) → number field ≡ value → Some (row_is row) ≡ row_of way value → Follows way total at.Codec v field (Ok (at.Quantity row))
unfolding command_rows
known_codec way total value row v field n e =
    let same : row_of way (number field) ≡ Some (row_is row) = ap (row_of way) n ∙ sym e in
    (ap row_rule same, ap (λ o. with_row total o (number field)) same)

pub unknown_codec : (way : Way) (total value : ℕ) (v : CommandValue) (field : List ℕ) → number field ≡ value → None ≡ row_of way value → Follows way total at.Codec v field (Err UnknownCodec)
unfolding command_rows
unknown_codec way total value v field n e = ap row_rule (ap (row_of way) n ∙ sym e)

pub right_kind : (way : Way) (total value : ℕ) (row : Row) (v : CommandValue) (field : List ℕ) → number field ≡ value → is_among value (kinds_of row.kinds) ≡ true → Follows way total (at.Kind row) v field (Ok (at.Size row))
unfolding kind_rows
right_kind way total value row v field n e = (ap (λ t. fault_unless t CommandType) (ap (λ k. is_among k (kinds_of row.kinds)) n ∙ e), refl)

pub wrong_kind : (way : Way) (total value : ℕ) (row : Row) (v : CommandValue) (field : List ℕ) → number field ≡ value → is_among value (kinds_of row.kinds) ≡ false → Follows way total (at.Kind row) v field (Err CommandType)
unfolding kind_rows
wrong_kind way total value row v field n e = ap (λ t. fault_unless t CommandType) (ap (λ k. is_among k (kinds_of row.kinds)) n ∙ e)

-- the size

pub right_size : (total least n : ℕ) → n + 8 ≡ total → least ≤ n → fault_unless ((n + 8 == total) && nat_le least n) CommandSize ≡ None
right_size total least n e fits =
    let t : ((n + 8 == total) && nat_le least n) ≡ true = grind (arith, nat_tests) in
    ap (λ b. fault_unless b CommandSize) t

by_tests : (a b : Bool) → (a ≡ true → b ≡ true → ⊥) → fault_unless (a && b) CommandSize ≡ Some CommandSize
by_tests true true h = absurd (h refl refl)
by_tests true false h = refl
by_tests false b h = refl

pub wrong_size : (total least n : ℕ) → (n + 8 ≡ total → least ≤ n → ⊥) → fault_unless ((n + 8 == total) && nat_le least n) CommandSize ≡ Some CommandSize
wrong_size total least n h = by_tests (n + 8 == total) (nat_le least n) (λ p q. h (grind (arith, nat_tests)) (grind (arith, nat_tests)))

pub size_fails : (way : Way) (total value : ℕ) (row : Row) (v : CommandValue) (field : List ℕ) → number field ≡ value → (value + 8 ≡ total → least_size (row_is row) ≤ value → ⊥)
    → Follows way total (at.Size row) v field (Err CommandSize)
unfolding size_rows
size_fails way total value row v field n h = wrong_size total (least_size (row_is row)) (number field) (λ e f. h (omega (arith, e, n)) (omega (arith, f, n)))

-- after the size stand the time, where there is one, and the IMEI and the text
pub size_follows : (way : Way) (total value text : ℕ) (row : Row) (v : CommandValue) (field : List ℕ) (next : NextField) → number field ≡ value → value + 8 ≡ total → least_size (row_is row) ≤ value → text ≡ value - least_size (row_is row)
    → time_rows row.time (λ time. imei_rows row.imei (λ i. text_rows text (λ t. said v time i t))) ≡ rows_from way total next (record v { time = None; imei = None })
    → Follows way total (at.Size row) v field (Ok next)
unfolding size_rows
size_follows way total value text row v field next n e fits is h =
    let least = least_size (row_is row) in
    let k : number field - least ≡ text = omega (arith, n, is) in
    let rows : ℕ → Rows CommandValue = λ m. time_rows row.time (λ time. imei_rows row.imei (λ i. text_rows m (λ t. said v time i t))) in
    (right_size total least (number field) (omega (arith, n, e)) (omega (arith, n, fits)), ap rows k ∙ h)

-- the IMEI

digit_passes : (b : ℕ) → b ≤ 9 → fault_unless (nat_le b 9) ImeiDigits ≡ None
digit_passes b h = let t : nat_le b 9 ≡ true = grind (arith, nat_tests) in ap (λ x. fault_unless x ImeiDigits) t

digit_fails : (b : ℕ) → 9 < b → fault_unless (nat_le b 9) ImeiDigits ≡ Some ImeiDigits
digit_fails b h = let t : nat_le b 9 ≡ false = grind (arith, nat_tests) in ap (λ x. fault_unless x ImeiDigits) t

pub first_follows : (way : Way) (total text value : ℕ) (v : CommandValue) (field : List ℕ) → number field ≡ value → value ≤ 9 → Follows way total (at.FirstDigit text) v field (Ok (at.Digits 6 text))
unfolding imei_rows
first_follows way total text value v field n h = (digit_passes (number field) (omega (arith, n, h)), refl)

pub first_fails : (way : Way) (total text value : ℕ) (v : CommandValue) (field : List ℕ) → number field ≡ value → 9 < value → Follows way total (at.FirstDigit text) v field (Err ImeiDigits)
unfolding imei_rows
first_fails way total text value v field n h = digit_fails (number field) (omega (arith, n, h))

pairs_pass : (b : ℕ) → b / 16 ≤ 9 → b % 16 ≤ 9 → digits_rule b ≡ None
pairs_pass b h l = let t : (nat_le (b / 16) 9 && nat_le (b % 16) 9) ≡ true = grind (arith, nat_tests) in ap (λ x. fault_unless x ImeiDigits) t

by_pair : (a b : Bool) → (a ≡ true → b ≡ true → ⊥) → fault_unless (a && b) ImeiDigits ≡ Some ImeiDigits
by_pair true true h = absurd (h refl refl)
by_pair true false h = refl
by_pair false b h = refl

pub digits_fail : (way : Way) (total behind text value : ℕ) (v : CommandValue) (field : List ℕ) → number field ≡ value → (value / 16 ≤ 9 → value % 16 ≤ 9 → ⊥) → Follows way total (at.Digits behind text) v field (Err ImeiDigits)
unfolding pair_rows
digits_fail way total behind text value v field n h =
    ap digits_rule n ∙ by_pair (nat_le (value / 16) 9) (nat_le (value % 16) 9) (λ p q. let a : value / 16 ≤ 9 = grind (arith, nat_tests) in let b : value % 16 ≤ 9 = grind (arith, nat_tests) in h a b)

pub digits_end : (way : Way) (total behind text value : ℕ) (v : CommandValue) (field : List ℕ) → number field ≡ value → value / 16 ≤ 9 → value % 16 ≤ 9 → behind ≡ 0 → Follows way total (at.Digits behind text) v field (Ok (at.Text text))
unfolding pair_rows
digits_end way total behind text value v field n h l none =
    let b = number field in
    let next = digits_of v.imei * 100 + (b / 16 * 10 + b % 16) in
    (ap digits_rule n ∙ pairs_pass value h l, ap (λ k. pair_rows k next (λ m. text_rows text (λ t. said v v.time (Some m) t))) none)

pub digits_follow : (way : Way) (total behind fewer text value : ℕ) (v : CommandValue) (field : List ℕ) → number field ≡ value → value / 16 ≤ 9 → value % 16 ≤ 9 → behind ≡ suc fewer → Follows way total (at.Digits behind text) v field (Ok (at.Digits fewer text))
unfolding pair_rows
digits_follow way total behind fewer text value v field n h l one =
    let b = number field in
    let next = digits_of v.imei * 100 + (b / 16 * 10 + b % 16) in
    (ap digits_rule n ∙ pairs_pass value h l, ap (λ k. pair_rows k next (λ m. text_rows text (λ t. said v v.time (Some m) t))) one)

pub no_imei : (way : Way) (total text : ℕ) (v : CommandValue) → rows_from way total (at.Text text) (record v { imei = None }) ≡ imei_rows false (λ i. text_rows text (λ t. said v v.time i t))
unfolding imei_rows
no_imei way total text v = refl

pub with_time : (way : Way) (total value text : ℕ) (row : Row) (v : CommandValue) (field : List ℕ) → number field ≡ value → value + 8 ≡ total → least_size (row_is row) ≤ value → text ≡ value - least_size (row_is row) → row.time ≡ true
    → Follows way total (at.Size row) v field (Ok (at.Time row.imei text))
unfolding time_rows
with_time way total value text row v field n e fits is has =
    size_follows way total value text row v field (at.Time row.imei text) n e fits is (ap (λ b. time_rows b (λ time. imei_rows row.imei (λ i. text_rows text (λ t. said v time i t)))) has)

pub without_time : (way : Way) (total value text : ℕ) (row : Row) (v : CommandValue) (field : List ℕ) (next : NextField) → number field ≡ value → value + 8 ≡ total → least_size (row_is row) ≤ value → text ≡ value - least_size (row_is row) → row.time ≡ false
    → ((w : CommandValue) → rows_from way total next (record w { imei = None }) ≡ imei_rows row.imei (λ i. text_rows text (λ t. said w w.time i t)))
    → Follows way total (at.Size row) v field (Ok next)
unfolding time_rows
without_time way total value text row v field next n e fits is has h =
    size_follows way total value text row v field next n e fits is (ap (λ b. time_rows b (λ time. imei_rows row.imei (λ i. text_rows text (λ t. said v time i t)))) has ∙ sym (h (record v { time = None })))

-- the time and the text

pub time_follows : (way : Way) (total text : ℕ) (imei : Bool) (v : CommandValue) (field : List ℕ) (next : NextField)
    → ((w : CommandValue) → rows_from way total next (record w { imei = None }) ≡ imei_rows imei (λ i. text_rows text (λ t. said w w.time i t)))
    → Follows way total (at.Time imei text) v field (Ok next)
time_follows way total text imei v field next h = (refl, sym (h (record v { time = Some (number field) })))

pub text_follows : (way : Way) (total text : ℕ) (v : CommandValue) (field : List ℕ) → Follows way total (at.Text text) v field (Ok at.LastQuantity)
unfolding text_rows
text_follows way total text v field = (refl, refl)

pub short_field : (s t : NextField) (w : ℕ) (field : List ℕ) → s ≡ t → left_of t ≡ left.Field w → w ≤ 8 → left_of s ≡ left.Field (length field) → length field ≤ 8
short_field s t w field same is few e = let all : ◌≡◌ {A = Left (Unit {0})} (left.Field (length field)) (left.Field w) = sym e ∙ ap left_of same ∙ is in let k : length field ≡ w = cc in omega arith
