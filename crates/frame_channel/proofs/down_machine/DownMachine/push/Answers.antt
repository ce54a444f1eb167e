use Rattle.std.proofs.Common.{◌≡◌, arith, subst}
use Rattle.command_layout.specs.declared.way.Way.TheVariants.{Down}
use Rattle.frame_channel.specs.CountPlaces.{four_rows}
use Rattle.frame_channel.specs.DownMachines.{HasTaken}
use Rattle.frame_channel.specs.declared.down_machine.DownMachine.{DownMachine}
use Rattle.frame_channel.proofs.DownSteps.{answer_taken, count_broken, count_taken, frame_broken, frame_whole, zeros_taken}
use Rattle.frame_channel.proofs.down_machine.DownMachine.push.Goals as goal

pub returns-in-Answer-clause-answers : goal.returns-in-Answer-clause-answers
returns-in-Answer-clause-answers g c after_answer bytes has =
    let h = subst (λ (m : DownMachine). HasTaken m after_answer bytes) c.in-Answer.is has in
    answer_taken c.args.byte after_answer bytes h.0 h.1

pub returns-in-Broken-clause-answers : goal.returns-in-Broken-clause-answers
returns-in-Broken-clause-answers g c after_answer bytes has =
    let h = subst (λ (m : DownMachine). HasTaken m after_answer bytes) c.in-Count.is has in
    count_broken c.in-Count.count c.in-Broken.found c.args.byte after_answer bytes h.0 h.1 (c.in-Broken.ensures.answers 4 four_rows bytes h.1)

pub returns-then-number-gt0-clause-answers : goal.returns-then-number-gt0-clause-answers
returns-then-number-gt0-clause-answers g c after_answer bytes has =
    let h = subst (λ (m : DownMachine). HasTaken m after_answer bytes) c.in-Count.is has in
    count_taken c.in-Count.count c.in-Whole.number c.args.byte after_answer bytes h.0 h.1 (c.in-Whole.ensures.answers 4 four_rows bytes h.1) (λ none. omega (arith, none, c.if-number-gt0.true))

pub returns-else-number-gt0-clause-answers : goal.returns-else-number-gt0-clause-answers
returns-else-number-gt0-clause-answers g c after_answer bytes has =
    let h = subst (λ (m : DownMachine). HasTaken m after_answer bytes) c.in-Count.is has in
    let zero : c.in-Whole.number ≡ 0 = omega (arith, c.if-number-gt0.false) in
    zeros_taken c.in-Count.count c.in-Whole.number c.args.byte c.after_zeros.result after_answer bytes h.0 h.1 (c.in-Whole.ensures.answers 4 four_rows bytes h.1) zero c.after_zeros.ensures

pub returns-in-Whole-push-clause-answers : goal.returns-in-Whole-push-clause-answers
returns-in-Whole-push-clause-answers g c after_answer bytes has =
    let h = subst (λ (m : DownMachine). HasTaken m after_answer bytes) c.in-Frame.is has in
    frame_whole c.in-Frame.frame _ c.args.byte after_answer bytes h.0 h.1 (c.in-Whole-push.ensures.answers Down bytes h.1.has)

pub returns-in-Broken-push-clause-answers : goal.returns-in-Broken-push-clause-answers
returns-in-Broken-push-clause-answers g c after_answer bytes has =
    let h = subst (λ (m : DownMachine). HasTaken m after_answer bytes) c.in-Frame.is has in
    frame_broken c.in-Frame.frame c.in-Broken-push.found.kind c.in-Broken-push.found.place c.args.byte after_answer bytes h.0 h.1 (c.in-Broken-push.ensures.answers Down bytes h.1.has)
