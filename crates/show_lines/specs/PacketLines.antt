-- What is printed of a packet: its line, and one line for each of its records, in their order (this project's own).
use Rattle.std.specs.Prelude.{ℕ, List, ◌++◌}
use Rattle.std.specs.List.{flat_map}
use Rattle.avl_values.specs.Record.{Record}
use Rattle.record_layout.specs.RecordsOf.{records_of}
use Rattle.record_layout.specs.declared.head.PacketHead.{PacketHead}
use Rattle.show_lines.specs.ItemTexts.{packet_text}
use Rattle.show_lines.specs.Json.{as_line}
use Rattle.show_lines.specs.RecordText.{record_text}
use Rattle.show_lines.specs.RecordValues.{value_in}

-- a record's line, from its bytes
abbrev pub record_line : ℕ → Record → List ℕ
record_line line r = as_line (record_text r.codec (value_in r.codec r.bytes) line)

-- the lines of the packet that says this first, and has this body
abbrev pub packet_lines : PacketHead → List ℕ → ℕ → List ℕ
packet_lines head body line = as_line (packet_text head line) ++ flat_map (record_line line) (records_of body)
