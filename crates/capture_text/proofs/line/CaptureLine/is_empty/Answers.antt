use Rattle.std.proofs.Common.{ap}
use Rattle.capture_text.specs.Capture.{LineValue}
use Rattle.capture_text.proofs.LineLemmas.{empty_bytes}
use Rattle.capture_text.proofs.line.CaptureLine.is_empty.Goals as goal

pub returns : goal.returns
returns c = empty_bytes c.self.inside.digits.now c.args.self.now.bytes c.is_empty.result c.self.invariant c.is_empty.ensures (ap (λ (l : LineValue). l.bytes) c.self.view_is)
