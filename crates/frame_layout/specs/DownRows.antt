-- The rows of a stream down: the login's answer, and then counts and frames of commands (Teltonika, Data Sending Protocols,
-- "Codec 8 protocol sending over TCP", Codec 12 and Codec 14). Places are counted from an item's first byte.
use Rattle.std.specs.Prelude.{ℕ, ◌==◌, Bool, true, false, List, None, if◌then◌else◌}
use Rattle.layout.specs.Rows.{Rows, done, Verdict, judge}
use Rattle.layout.specs.Fields.{number_row}
use Rattle.layout.specs.MappedRows.{map_value}
use Rattle.command_layout.specs.declared.way.Way.TheVariants.{Down}
use Rattle.frame_layout.specs.FrameBodies.{body_kind_rows, longest_body}
use Rattle.frame_layout.specs.FrameRows.{length_rows}
use Rattle.frame_layout.specs.Values.{DownValue, answer, count, order}

-- one byte, of any value
unfoldable pub answer_rows : Rows DownValue
answer_rows = number_row 1 (λ _. None) (λ n. done (answer n))

-- the frame of a command, after its four zero bytes
unfoldable pub order_rows : Rows DownValue
order_rows = map_value (λ f. order f.1) (length_rows (longest_body Down) (body_kind_rows Down))

-- a number of records that isn't 0; four zero bytes begin the frame of a command
unfoldable pub count_rows : Rows DownValue
count_rows = number_row 4 (λ _. None) (λ n. if n == 0 then order_rows else done (count n))

-- the item at a place of the stream: the login's answer at the first, and then counts and frames
abbrev pub down_rows : Bool → Rows DownValue
down_rows false = answer_rows
down_rows true = count_rows

-- the verdict on bytes before the login's answer or after it
abbrev pub down_verdict : Bool → List ℕ → Verdict DownValue
down_verdict after_answer bytes = judge (down_rows after_answer) 0 bytes
