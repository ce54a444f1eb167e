-- What `show` prints of a capture: of each of its lines the items in order, up to the first fault, whose line is the last (this
-- project's own).
use Rattle.std.specs.Prelude.{ℕ, List, [], ◌∷◌, ◌++◌, length, take, Bool, true, false, Result, Ok, Err, if◌then◌else◌}
use Rattle.std.specs.List.{flat_map}
use Rattle.avl_values.specs.declared.fault.FaultKind.{FaultKind}
use Rattle.layout.specs.Rows.{Rows, Verdict, whole, short, fault, judge}
use Rattle.item_streams.specs.Streams.{Reading, next_rows}
use Rattle.text_streams.specs.Refused.{refused_line}
use Rattle.capture_text.specs.Capture.{LineValue, capture_of, fault_name}
use Rattle.capture_text.specs.declared.fault.CaptureRefusal.{CaptureRefusal}
use Rattle.capture_text.specs.declared.word.CaptureWord.{CaptureWord}
use Rattle.capture_text.specs.declared.word.CaptureWord.TheVariants.{Up, Frames, Down, Answers, Udp, Reply}
use Rattle.show_lines.specs.ItemTexts.{fault_text, short_text}
use Rattle.show_lines.specs.Json.{as_line}
use Rattle.frame_layout.specs.DownRows.{down_rows}
use Rattle.frame_layout.specs.Readings.{down_reading, up_reading}
use Rattle.frame_layout.specs.UpRows.{up_rows}
use Rattle.datagrams.specs.DatagramRows.{datagram_verdict, reply_verdict}
use Rattle.datagrams.specs.Values.{DatagramValue, ReplyValue}
use Rattle.fmb_show.specs.ItemLines.{datagram_lines, down_lines, reply_line, up_lines}

-- what is printed, and whether a fault ends it
pub record Print : Type 0 where
  pub text : List ℕ
  pub faulty : Bool

-- this text, and no fault
abbrev pub only : List ℕ → Print
only text = record { text = text; faulty = false }

-- a text that ends with a fault
abbrev pub ended_by_fault : List ℕ → Print
ended_by_fault text = record { text = text; faulty = true }

-- one print and then the other, unless a fault ends the first
abbrev pub and_then : Print → Print → Print
and_then first second = if first.faulty then first else record { text = first.text ++ second.text; faulty = second.faulty }

-- how many bytes there are of an item that is unfinished
abbrev pub short_print : List ℕ → ℕ → Print
short_print [] line = only []
short_print (byte ∷ more) line = only (as_line (short_text (length (byte ∷ more)) line))

-- the first fault of an item
abbrev pub fault_print : FaultKind → ℕ → ℕ → Print
fault_print kind place line = ended_by_fault (as_line (fault_text (record { kind = kind; place = place }) line))

-- the bytes after the last item, by the verdict on them
abbrev pub rest_print : {V : Type 0} → Verdict V → List ℕ → ℕ → Print
rest_print (whole v n) rest line = only []
rest_print short rest line = short_print rest line
rest_print (fault kind place) rest line = fault_print kind place line

-- what was read of a stream: the lines of its items, and what is printed of its rest
abbrev pub reading_print : {V : Type 0} → (V → ℕ → List ℕ) → Rows V → Rows V → Reading V → ℕ → Print
reading_print lines first later reading line =
    and_then (only (flat_map (λ item. lines item.value line) reading.items)) (rest_print (judge (next_rows first later reading.items) 0 reading.rest) reading.rest line)

-- a stream up, from the login or from after it
abbrev pub up_print : Bool → List ℕ → ℕ → Print
up_print after_login bytes line = reading_print up_lines (up_rows after_login) (up_rows true) (up_reading after_login bytes) line

-- a stream down, from the login's answer or from after it
abbrev pub down_print : Bool → List ℕ → ℕ → Print
down_print after_answer bytes line = reading_print down_lines (down_rows after_answer) (down_rows true) (down_reading after_answer bytes) line

-- a datagram or a reply, by the verdict on it: its lines, or its first fault
abbrev pub item_print : {V : Type 0} → (V → ℕ → List ℕ) → Verdict V → ℕ → Print
item_print lines (whole v n) line = only (lines v line)
item_print lines short line = only []
item_print lines (fault kind place) line = fault_print kind place line

abbrev pub datagram_print : Verdict DatagramValue → ℕ → Print
datagram_print verdict line = item_print datagram_lines verdict line

abbrev pub reply_print : Verdict ReplyValue → ℕ → Print
reply_print verdict line = item_print reply_line verdict line

-- a line of a capture
abbrev pub bytes_print : CaptureWord → List ℕ → ℕ → Print
bytes_print Up bytes line = up_print false bytes line
bytes_print Frames bytes line = up_print true bytes line
bytes_print Down bytes line = down_print false bytes line
bytes_print Answers bytes line = down_print true bytes line
bytes_print Udp bytes line = datagram_print (datagram_verdict (length bytes) bytes) line
bytes_print Reply bytes line = reply_print (reply_verdict (length bytes) bytes) line

abbrev pub line_print : LineValue → Print
line_print line = bytes_print line.word line.bytes line.number

-- the lines of a capture, up to the first fault
unfoldable pub lines_print : List LineValue → Print
lines_print [] = only []
lines_print (line ∷ lines) = and_then (line_print line) (lines_print lines)

-- a capture that was read, or refused
abbrev pub capture_print : Result (List LineValue) CaptureRefusal → Print
capture_print (Ok lines) = lines_print lines
capture_print (Err refusal) = ended_by_fault (refused_line refusal.line (fault_name refusal.fault))

-- what is printed of the first k lines of a capture; of a text that is refused, nothing
abbrev pub front_print : ℕ → Result (List LineValue) CaptureRefusal → List ℕ
front_print k (Ok lines) = (lines_print (take k lines)).text
front_print k (Err refusal) = []

-- what is printed of a text as a capture
abbrev pub shown : List ℕ → Print
shown text = capture_print (capture_of text)

-- what is printed of its first k lines
abbrev pub shown_front : ℕ → List ℕ → List ℕ
shown_front k text = front_print k (capture_of text)
