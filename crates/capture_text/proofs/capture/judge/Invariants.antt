use Rattle.std.proofs.Common.{◌≡◌}
use Rattle.capture_text.specs.Capture.{lines_say}
use Rattle.capture_text.proofs.CaptureLemmas.{fault_in}
use Rattle.capture_text.proofs.capture.judge.Given as goal

abbrev pub invariant-loop-line : goal.invariant-loop-line
invariant-loop-line l = fault_in (lines_say l.line-iterator) ≡ fault_in (lines_say l.fn.lines)
