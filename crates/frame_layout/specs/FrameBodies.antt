-- The bodies of frames (Teltonika, Data Sending Protocols: data bodies and Codecs 12 to 15; which codec id passes which way, and
-- the limits of lengths, are this project's own).
use Rattle.std.specs.Prelude.{ℕ}
use Rattle.layout.specs.Rows.{Rows, body}
use Rattle.layout.specs.EitherRows.{either_rows}
use Rattle.layout.specs.MappedRows.{map_value}
use Rattle.record_layout.specs.PacketRows.{packet_rows}
use Rattle.command_layout.specs.declared.way.Way.{Way}
use Rattle.command_layout.specs.declared.way.Way.TheVariants.{Up, Down}
use Rattle.command_layout.specs.CommandRows.{command_rows}
use Rattle.frame_layout.specs.declared.body_kind.BodyKind.{BodyKind}
use Rattle.frame_layout.specs.declared.body_kind.BodyKind.TheVariants.{Packet, Command}

-- a command's body of N bytes
abbrev pub command_body_rows : Way → ℕ → Rows BodyKind
command_body_rows way total = map_value (λ _. Command) (command_rows way total)

-- a body of N bytes: up a data body or a command, by the codec id, and down a command
abbrev pub body_kind_rows : Way → ℕ → Rows BodyKind
body_kind_rows Up total = either_rows (map_value Packet packet_rows) (command_body_rows Up total)
body_kind_rows Down total = command_body_rows Down total

-- the most bytes of a body of this way
abbrev pub longest_body : Way → ℕ
longest_body Up = 65535
longest_body Down = 1268
