-- The rows of a command's body, and the verdict on one (Teltonika, Data Sending Protocols: Codecs 12, 13, 14, 15; that each
-- quantity is 1, and the order in which fields are judged, is this project's own).
use Rattle.std.specs.Prelude.{ℕ, zero, suc, ◌+◌, ◌-◌, ◌*◌, ◌/◌, ◌%◌, ◌==◌, ◌&&◌, nat_le, List, Bool, true, false, Option, Some, None}
use Rattle.avl_values.specs.declared.fault.FaultKind.{FaultKind}
use Rattle.avl_values.specs.declared.fault.FaultKind.TheVariants.{UnknownCodec, Quantity, CommandType, CommandSize, ImeiDigits}
use Rattle.layout.specs.Rows.{Rows, done, refuse, row, Verdict, judge, body}
use Rattle.layout.specs.Fields.{fault_unless, number_row}
use Rattle.command_layout.specs.declared.way.Way.{Way}
use Rattle.command_layout.specs.Values.{CommandValue}
use Rattle.command_layout.specs.Table.{CommandRow, row_of, is_among, least_size}

-- a quantity, which is 1
abbrev pub quantity_row : {V : Type 0} → Rows V → Rows V
quantity_row rest = number_row 1 (λ n. fault_unless (n == 1) Quantity) (λ _. rest)

-- the seconds, where the row has them
unfoldable pub time_rows : {V : Type 0} → Bool → (Option ℕ → Rows V) → Rows V
time_rows true rest = number_row 4 (λ _. None) (λ n. rest (Some n))
time_rows false rest = rest None

-- each half byte is a digit
abbrev pub digits_rule : ℕ → Option FaultKind
digits_rule b = fault_unless (nat_le (b / 16) 9 && nat_le (b % 16) 9) ImeiDigits

-- N bytes of two digits, after those that spell a number
unfoldable pub pair_rows : {V : Type 0} → ℕ → ℕ → (ℕ → Rows V) → Rows V
pair_rows zero n rest = rest n
pair_rows (suc k) n rest = number_row 1 digits_rule (λ b. pair_rows k (n * 100 + (b / 16 * 10 + b % 16)) rest)

-- the IMEI, where the row has it: a zero and a digit, and seven bytes of two digits
unfoldable pub imei_rows : {V : Type 0} → Bool → (Option ℕ → Rows V) → Rows V
imei_rows true rest = number_row 1 (λ b. fault_unless (nat_le b 9) ImeiDigits) (λ b. pair_rows 7 b (λ n. rest (Some n)))
imei_rows false rest = rest None

-- N bytes of text, and the second quantity
unfoldable pub text_rows : ℕ → (List ℕ → CommandValue) → Rows CommandValue
text_rows size says = row size (λ _. None) (λ text. quantity_row (done (says text)))

-- the content of N bytes, and the second quantity
abbrev pub content_rows : CommandRow → ℕ → ℕ → ℕ → Rows CommandValue
content_rows r codec kind size =
    time_rows r.time
    (λ time.
    imei_rows r.imei
    (λ imei. text_rows (size - least_size r) (λ text. record { codec = codec; kind = kind; time = time; imei = imei; text = text })))

-- the size, which is the body's length less the 8 bytes that aren't content, and at least the row's least
unfoldable pub size_rows : ℕ → CommandRow → ℕ → ℕ → Rows CommandValue
size_rows total r codec kind =
    number_row 4 (λ n. fault_unless ((n + 8 == total) && nat_le (least_size r) n) CommandSize) (λ n. content_rows r codec kind n)

-- the type, which is one of the row's
unfoldable pub kind_rows : ℕ → CommandRow → ℕ → Rows CommandValue
kind_rows total r codec = number_row 1 (λ k. fault_unless (is_among k r.kinds) CommandType) (λ k. size_rows total r codec k)

abbrev pub row_rule : Option CommandRow → Option FaultKind
row_rule (Some r) = None
row_rule None = Some UnknownCodec

abbrev pub with_row : ℕ → Option CommandRow → ℕ → Rows CommandValue
with_row total (Some r) codec = quantity_row (kind_rows total r codec)
with_row total None codec = refuse UnknownCodec

-- a command's body of N bytes: the codec id, and what its row in the table says
unfoldable pub command_rows : Way → ℕ → Rows CommandValue
command_rows way total = number_row 1 (λ id. row_rule (row_of way id)) (λ id. with_row total (row_of way id) id)

-- the verdict on the first bytes of a body of N bytes
unfoldable pub command_verdict : Way → ℕ → List ℕ → Verdict CommandValue
command_verdict way total bytes = judge (body total (command_rows way total)) 0 bytes
