use Rattle.std.proofs.Common.{◌≡◌, ◌∙◌, ◌≤◌, ◌^◌, ℕ, List, [], Ok, Err, length, sym, ap, arith}
use Rattle.capture_text.specs.Capture.{capture_of, lines_say, said_by}
use Rattle.capture_text.proofs.CaptureLemmas.{handed_on, too_long, whole_text}
use Rattle.capture_text.proofs.LineLemmas.{ok_value}
use Rattle.capture_text.proofs.capture.Capture.new.Goals as goal

pub returns-then-text-gt-LONGEST-clause-refused : goal.returns-then-text-gt-LONGEST-clause-refused
returns-then-text-gt-LONGEST-clause-refused c = too_long c.args.text.now (omega arith)

pub returns-in_err-judge-clause-refused : goal.returns-in_err-judge-clause-refused
returns-in_err-judge-clause-refused c =
    let short : length c.args.text.now ≤ 2 ^ 24 = omega arith in
    handed_on c.from_residual.result c.in_err-judge.field-0.0 (λ refusal. capture_of c.args.text.now ≡ Err refusal) c.from_residual.ensures.1
    (whole_text c.args.text.now short ∙ ap lines_say (sym c.new.ensures) ∙ c.in_err-judge.ensures.refused)

pub returns-clause-lines : goal.returns-clause-lines
returns-clause-lines c =
    let short : length c.args.text.now ≤ 2 ^ 24 = omega arith in
    let same = c.new-2.ensures ∙ sym c.new.ensures in
    whole_text c.args.text.now short ∙ ap lines_say (sym c.new.ensures) ∙ ok_value (lines_say c.new.result) [] c.in_ok-judge.ensures.sound ∙ ap (λ (lines : List (ℕ × List ℕ)). Ok (said_by lines)) (sym same)
