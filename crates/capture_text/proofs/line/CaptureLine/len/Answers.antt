use Rattle.std.proofs.Common.{length, ◌∙◌, ap}
use Rattle.capture_text.specs.Capture.{LineValue}
use Rattle.capture_text.proofs.LineLemmas.{half_as_many}
use Rattle.capture_text.proofs.line.CaptureLine.len.Goals as goal

pub returns : goal.returns
returns c = half_as_many c.self.inside.digits.now c.self.invariant ∙ ap (λ (l : LineValue). length l.bytes) c.self.view_is
