use Rattle.std.proofs.Common.{◌≡◌, ◌∙◌, ◌∷◌, [], sym, ap}
use Rattle.capture_text.specs.Capture.{LineValue, said_by}
use Rattle.text_lines.proofs.ContentLemmas.{gave_first}
use Rattle.capture_text.proofs.CaptureLemmas.{first_split, nothing_said, at_none, split_sound}
use Rattle.capture_text.proofs.capture.CaptureIterator.next.Goals as goal

pub returns-in_err-line-clause-steps : goal.returns-in_err-line-clause-steps
returns-in_err-line-clause-steps c =
    let end : (c.args.self.now ≡ []) × (said_by c.next.new.self ≡ []) =
    (sym c.self.view_is ∙ nothing_said c.self.inside.lines c.in_err-line.ensures.steps.0, nothing_said c.next.new.self c.in_err-line.ensures.steps.1) in
    at_none c.from_residual.result _ _ c.from_residual.ensures end

pub unwrap-word-requires : goal.unwrap-word-requires
unwrap-word-requires c =
    first_split c.in_ok-line.line.number c.in_ok-line.line.text.now c.self.inside.lines c.next.new.self c.split_line.result c.in_ok-line.ensures.steps c.self.invariant c.split_line.ensures.fault

pub new-requires : goal.new-requires
new-requires c =
    (split_sound c.in_ok-line.line.number c.in_ok-line.line.text.now c.self.inside.lines c.next.new.self c.split_line.result c.unwrap-word.result c.unwrap-word.ensures
    c.split_line.ensures.parts c.in_ok-line.ensures.steps c.self.invariant).digits_decode

pub invariant_of-self-2 : goal.invariant_of-self-2
invariant_of-self-2 c =
    (split_sound c.in_ok-line.line.number c.in_ok-line.line.text.now c.self.inside.lines c.next.new.self c.split_line.result c.unwrap-word.result c.unwrap-word.ensures
    c.split_line.ensures.parts c.in_ok-line.ensures.steps c.self.invariant).more_sound

pub returns-clause-steps : goal.returns-clause-steps
returns-clause-steps c =
    let sound = split_sound c.in_ok-line.line.number c.in_ok-line.line.text.now c.self.inside.lines c.next.new.self c.split_line.result c.unwrap-word.result c.unwrap-word.ensures
    c.split_line.ensures.parts c.in_ok-line.ensures.steps c.self.invariant in
    sym c.self.view_is ∙ sound.said ∙ ap (λ (line : LineValue). line ∷ said_by c.next.new.self) (sym c.new.ensures)

pub returns-clause-goes : goal.returns-clause-goes
returns-clause-goes c =
    let sound = split_sound c.in_ok-line.line.number c.in_ok-line.line.text.now c.self.inside.lines c.next.new.self c.split_line.result c.unwrap-word.result c.unwrap-word.ensures
    c.split_line.ensures.parts c.in_ok-line.ensures.steps c.self.invariant in
    gave_first _ c.args.self.now _ c.new.result _ (sym c.self.view_is ∙ sound.said ∙ ap (λ (line : LineValue). line ∷ said_by c.next.new.self) (sym c.new.ensures)) tt
