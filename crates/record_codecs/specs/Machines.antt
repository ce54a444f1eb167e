-- Where a machine stands that takes a body byte by byte.
use Rattle.std.specs.Prelude.{◌≡◌, ℕ, List}
use Rattle.field_machine.specs.Machines as machine
use Rattle.field_machine.specs.declared.verdict.Scan.{Scan}
use Rattle.field_machine.specs.declared.verdict.Scan.TheVariants.{More, Whole, Broken}
use Rattle.record_layout.specs.declared.head.PacketHead.{PacketHead}
use Rattle.record_layout.specs.PacketRows.{packet_rows, packet_verdict}
use Rattle.record_codecs.specs.declared.machine.RecordMachine.{RecordMachine}
use Rattle.record_codecs.specs.BodyCursor.{StandsAt, left_of}
use Rattle.record_codecs.specs.Verdicts.{scan_verdict}

-- The machine has taken these bytes of a body of `total` bytes, and every answer so far was More.
abbrev pub HasTaken : RecordMachine → ℕ → List ℕ → Type 0
HasTaken m total bytes = machine.HasTaken left_of StandsAt m.machine total packet_rows bytes

-- the machine has taken some bytes, and every answer so far was More
pub record IsTaking (m : RecordMachine) : Type 0 where
  pub total : ℕ
  pub bytes : List ℕ
  pub has : HasTaken m total bytes

-- how many bytes it has taken
abbrev pub taken_of : RecordMachine → ℕ
taken_of m = machine.taken_of m.machine

-- the answer is the verdict on all the bytes, and while it is More the machine goes on from them
abbrev pub Answers : RecordMachine → ℕ → List ℕ → Scan PacketHead → Type 0
Answers m total bytes More = (scan_verdict total More ≡ packet_verdict total bytes) × HasTaken m total bytes
Answers m total bytes (Whole head) = scan_verdict total (Whole head) ≡ packet_verdict total bytes
Answers m total bytes (Broken found) = scan_verdict total (Broken found) ≡ packet_verdict total bytes
