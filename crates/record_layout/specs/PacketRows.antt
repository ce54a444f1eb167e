-- The rows of a data body, and the verdict on one (Teltonika, Data Sending Protocols, data field; the faults are this project's
-- own).
use Rattle.std.specs.Prelude.{ℕ, List, Option, Some, None, ◌==◌, not}
use Rattle.avl_values.specs.Codec.{codec_of}
use Rattle.avl_values.specs.declared.codec.Codec.{Codec}
use Rattle.avl_values.specs.declared.fault.FaultKind.{FaultKind}
use Rattle.avl_values.specs.declared.fault.FaultKind.TheVariants.{UnknownCodec, NoRecords, CountMismatch}
use Rattle.layout.specs.Rows.{Rows, done, refuse, Verdict, judge, body}
use Rattle.layout.specs.Fields.{fault_unless, number_row, times}
use Rattle.record_layout.specs.declared.head.PacketHead.{PacketHead}
use Rattle.record_layout.specs.RecordRows.{record_rows}

-- the second number of records, which is the first one
abbrev pub last_count : PacketHead → Rows PacketHead
last_count head = number_row 1 (λ n. fault_unless (n == head.count) CountMismatch) (λ _. done head)

-- the number of records, which isn't 0, and the records
abbrev pub after_codec : Codec → Rows PacketHead
after_codec codec =
    number_row 1 (λ n. fault_unless (not (n == 0)) NoRecords)
    (λ n. times n (record_rows codec) (last_count (record { codec = codec; count = n })))

abbrev pub codec_rule : Option Codec → Option FaultKind
codec_rule (Some codec) = None
codec_rule None = Some UnknownCodec

abbrev pub with_codec : Option Codec → Rows PacketHead
with_codec (Some codec) = after_codec codec
with_codec None = refuse UnknownCodec

-- a data body: the codec id, and what its codec says
unfoldable pub packet_rows : Rows PacketHead
packet_rows = number_row 1 (λ id. codec_rule (codec_of id)) (λ id. with_codec (codec_of id))

-- the verdict on the first bytes of a body of N bytes
unfoldable pub packet_verdict : ℕ → List ℕ → Verdict PacketHead
packet_verdict total bytes = judge (body total packet_rows) 0 bytes
