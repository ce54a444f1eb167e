use Rattle.std.proofs.Common.{◌∙◌, sym}
use Rattle.capture_text.proofs.CaptureLemmas.{met, no_fault, none_met, passed, that_fault}
use Rattle.capture_text.proofs.capture.judge.Goals as goal

pub returns-in-Err-clause-refused : goal.returns-in-Err-clause-refused
returns-in-Err-clause-refused c =
    that_fault _ _ (sym c.loop-line.invariant
    ∙ met c.in-Some.line.number c.in-Some.line.text.now c.loop-line.line-iterator c.next.new.self c.in-Err.fault c.in-Some.ensures.steps c.in-Err.ensures.fault)

pub loop-line-preserved : goal.loop-line-preserved
loop-line-preserved c =
    passed c.in-Some.line.number c.in-Some.line.text.now c.loop-line.line-iterator c.next.new.self c.in-Some.ensures.steps c.in_default.ensures.sound ∙ c.loop-line.invariant

pub returns-clause-sound : goal.returns-clause-sound
returns-clause-sound c = no_fault _ (sym c.loop-line.invariant ∙ none_met c.loop-line.line-iterator c.in-None.ensures.steps.0)
