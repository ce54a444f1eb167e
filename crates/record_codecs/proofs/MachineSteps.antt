-- What the machine over a body's fields answers, as the packet's verdict.
use Rattle.std.proofs.Common.{◌≡◌, ℕ, ◌<◌, List, length, sym, ap, ◌∙◌, arith}
use Rattle.layout.specs.Rows.{judge, body, short, whole, Verdict}
use Rattle.layout.proofs.NestedLaws.{body_short}
use Rattle.field_machine.specs.Machines as machine
use Rattle.field_machine.specs.Verdicts.{IsVerdict}
use Rattle.field_machine.specs.declared.verdict.Scan.{Scan}
use Rattle.field_machine.specs.declared.verdict.Scan.TheVariants.{More, Whole, Broken}
use Rattle.field_machine.proofs.MachineSteps as steps
use Rattle.record_layout.specs.declared.head.PacketHead.{PacketHead}
use Rattle.record_layout.specs.PacketRows.{packet_rows, packet_verdict}
use Rattle.record_codecs.specs.declared.machine.RecordMachine.{RecordMachine}
use Rattle.record_codecs.specs.BodyCursor.{SaysHead, StandsAt, left_of}
use Rattle.record_codecs.specs.CursorLaws.{body_leaves}
use Rattle.record_codecs.specs.Machines.{Answers, HasTaken}
use Rattle.record_codecs.specs.Verdicts.{scan_verdict}

as_verdict : (total : ℕ) (s : Scan PacketHead) (v : Verdict PacketHead) → IsVerdict SaysHead total s v → scan_verdict total s ≡ v
as_verdict total More v is = sym is
as_verdict total (Whole head) v (w, is, e) = ap (λ x. whole x total) (sym e) ∙ sym is
as_verdict total (Broken found) v is = sym is

pub scanned : (total : ℕ) (bytes : List ℕ) (s : Scan PacketHead) → IsVerdict SaysHead total s (judge (body total packet_rows) 0 bytes) → scan_verdict total s ≡ packet_verdict total bytes
unfolding packet_verdict
scanned total bytes s is = as_verdict total s (judge (body total packet_rows) 0 bytes) is

pub answered : (m : RecordMachine) (total : ℕ) (bytes : List ℕ) (s : Scan PacketHead) → IsVerdict SaysHead total s (judge (body total packet_rows) 0 bytes) → machine.GoesOn left_of StandsAt m.machine total packet_rows bytes s
    → Answers m total bytes s
answered m total bytes More is on = (scanned total bytes More is, on)
answered m total bytes (Whole head) is on = scanned total bytes (Whole head) is
answered m total bytes (Broken found) is on = scanned total bytes (Broken found) is

-- What a machine has taken is short, and fewer bytes than the body's length.

pub taken_short : (m : RecordMachine) (total : ℕ) (bytes : List ℕ) → HasTaken m total bytes → packet_verdict total bytes ≡ short
unfolding packet_verdict
taken_short m total bytes h = steps.taken_short left_of SaysHead StandsAt body_leaves m.machine total packet_rows bytes h

pub taken_below : (m : RecordMachine) (total : ℕ) (bytes : List ℕ) → HasTaken m total bytes → length bytes < total
taken_below m total bytes h = steps.taken_below left_of SaysHead StandsAt body_leaves m.machine total packet_rows bytes h

-- A whole body is never short.
pub whole_body : (total : ℕ) (have : List ℕ) → length have ≡ total → short ≡ packet_verdict total have → ⊥
unfolding packet_verdict
whole_body total have len e = let few = body_short packet_rows total 0 have (sym e) in omega arith
