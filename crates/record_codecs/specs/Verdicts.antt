-- What the judging calls answer, as verdicts.
use Rattle.std.specs.Prelude.{ℕ, Result, Ok, Err}
use Rattle.avl_values.specs.declared.fault.Fault.{Fault}
use Rattle.layout.specs.Rows.{Verdict, whole, short, fault}
use Rattle.record_layout.specs.declared.head.PacketHead.{PacketHead}
use Rattle.field_machine.specs.declared.verdict.Scan.{Scan}
use Rattle.field_machine.specs.declared.verdict.Scan.TheVariants.{More, Whole, Broken}

abbrev pub scan_verdict : ℕ → Scan PacketHead → Verdict PacketHead
scan_verdict total More = short
scan_verdict total (Whole head) = whole head total
scan_verdict total (Broken found) = fault found.kind found.place

abbrev pub read_verdict : ℕ → Result PacketHead Fault → Verdict PacketHead
read_verdict total (Ok head) = whole head total
read_verdict total (Err found) = fault found.kind found.place
