use Rattle.std.proofs.Common.{◌≡◌, ◌∙◌, ℕ, List, [], length, arith, sym, ap}
use Rattle.std.proofs.lemmas.List.{nil_from_length}
use Rattle.std.proofs.lemmas.Bool.Decides.{nat_tests}
use Rattle.std.specs.Str.Lines.{lines}
use Rattle.text_lines.specs.Lines.{content_from}
use Rattle.text_lines.proofs.ContentLemmas.{content_next, content_skipped, gave_first, no_content}
use Rattle.text_lines.proofs.content.ContentLinesIterator.next.Goals as goal

pub returns-then-not-is_skipped-clause-steps : goal.returns-then-not-is_skipped-clause-steps
returns-then-not-is_skipped-clause-steps c =
    let number = c.loop-self.self-inside.number in
    sym c.self.view_is ∙ sym c.loop-self.invariant.1 ∙ ap (content_from number) c.first_line.ensures.line
    ∙ content_next number c.first_line.result.0.now (lines c.first_line.result.1.now) (sym c.is_skipped.ensures ∙ c.if-not-is_skipped.true)

pub loop-self-preserved : goal.loop-self-preserved
loop-self-preserved c =
    let number = c.loop-self.self-inside.number in (
      omega (arith, c.loop-self.invariant.0, c.first_line.ensures.shorter),
      sym (content_skipped number c.first_line.result.0.now (lines c.first_line.result.1.now) (sym c.is_skipped.ensures ∙ c.if-not-is_skipped.false))
          ∙ sym (ap (content_from number) c.first_line.ensures.line) ∙ c.loop-self.invariant.1,
    )

pub returns-clause-steps : goal.returns-clause-steps
returns-clause-steps c =
    let empty : length c.loop-self.self-inside.rest.now ≡ 0 = grind (arith, nat_tests) in
    let end : content_from c.loop-self.self-inside.number (lines c.loop-self.self-inside.rest.now) ≡ [] =
    ap (λ (text : List ℕ). content_from c.loop-self.self-inside.number (lines text)) (nil_from_length c.loop-self.self-inside.rest.now empty) ∙ no_content c.loop-self.self-inside.number in
    (sym c.self.view_is ∙ sym c.loop-self.invariant.1 ∙ end, end)

pub returns-then-not-is_skipped-clause-goes : goal.returns-then-not-is_skipped-clause-goes
returns-then-not-is_skipped-clause-goes c =
    let number = c.loop-self.self-inside.number in
    gave_first _ c.args.self.now _ (number, c.first_line.result.0.now) _ (sym c.self.view_is ∙ sym c.loop-self.invariant.1 ∙ ap (content_from number) c.first_line.ensures.line
    ∙ content_next number c.first_line.result.0.now (lines c.first_line.result.1.now) (sym c.is_skipped.ensures ∙ c.if-not-is_skipped.true)) tt
