-- The lines that are printed of an item (this project's own).
use Rattle.std.specs.Prelude.{ℕ, List, [], ◌++◌, length, Option, Some, None}
use Rattle.layout.specs.Rows.{Verdict, whole, short, fault}
use Rattle.command_layout.specs.declared.way.Way.{Way}
use Rattle.command_layout.specs.declared.way.Way.TheVariants as way
use Rattle.command_layout.specs.Answers.{value_in}
use Rattle.command_layout.specs.Values.{CommandValue}
use Rattle.frame_layout.specs.Values.{UpValue, login, packet, response, DownValue, answer, count, order}
use Rattle.datagrams.specs.Values.{DatagramValue, ReplyValue}
use Rattle.record_layout.specs.PacketRows.{packet_verdict}
use Rattle.record_layout.specs.declared.head.PacketHead.{PacketHead}
use Rattle.show_lines.specs.ItemTexts.{answer_text, command_text, count_text, datagram_text, login_text, reply_text}
use Rattle.show_lines.specs.Json.{as_line}
use Rattle.show_lines.specs.PacketLines.{packet_lines}

-- a command's line, by what its body says
abbrev pub value_line : Option CommandValue → ℕ → List ℕ
value_line (Some value) line = as_line (command_text value line)
value_line None line = []

abbrev pub command_line : Way → List ℕ → ℕ → List ℕ
command_line way body line = value_line (value_in way body) line

abbrev pub up_lines : UpValue → ℕ → List ℕ
up_lines (login imei) line = as_line (login_text imei line)
up_lines (packet head body) line = packet_lines head body line
up_lines (response body) line = command_line way.Up body line

abbrev pub down_lines : DownValue → ℕ → List ℕ
down_lines (answer byte) line = as_line (answer_text byte line)
down_lines (count n) line = as_line (count_text n line)
down_lines (order body) line = command_line way.Down body line

-- the lines of a data body
abbrev pub head_lines : Verdict PacketHead → List ℕ → ℕ → List ℕ
head_lines (whole head n) body line = packet_lines head body line
head_lines short body line = []
head_lines (fault kind place) body line = []

abbrev pub datagram_lines : DatagramValue → ℕ → List ℕ
datagram_lines v line = as_line (datagram_text v.packet v.unused v.avl_packet v.imei line) ++ head_lines (packet_verdict (length v.body) v.body) v.body line

abbrev pub reply_line : ReplyValue → ℕ → List ℕ
reply_line v line = as_line (reply_text v.packet v.unused v.avl_packet v.count line)
