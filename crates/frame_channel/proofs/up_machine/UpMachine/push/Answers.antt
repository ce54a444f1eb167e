use Rattle.std.proofs.Common.{◌∷◌, ◌++◌, [], subst}
use Rattle.command_layout.specs.declared.way.Way.TheVariants.{Up}
use Rattle.frame_channel.specs.LoginPlaces.{imei_rows}
use Rattle.frame_channel.specs.UpMachines.{HasTaken}
use Rattle.frame_channel.specs.declared.up_machine.UpMachine.{UpMachine}
use Rattle.frame_channel.proofs.UpSteps.{frame_broken, frame_whole, login_broken, login_whole}
use Rattle.frame_channel.proofs.up_machine.UpMachine.push.Goals as goal

pub returns-in-Whole-clause-answers : goal.returns-in-Whole-clause-answers
returns-in-Whole-clause-answers g c after_login bytes has =
    let h = subst (λ (m : UpMachine). HasTaken m after_login bytes) c.in-Login.is has in
    login_whole after_login c.in-Login.login c.in-Whole.imei c.args.byte bytes h.0 h.1 (c.in-Whole.ensures.answers 17 imei_rows bytes h.1)

pub returns-in-Broken-clause-answers : goal.returns-in-Broken-clause-answers
returns-in-Broken-clause-answers g c after_login bytes has =
    let h = subst (λ (m : UpMachine). HasTaken m after_login bytes) c.in-Login.is has in
    login_broken after_login c.in-Login.login c.in-Broken.found c.args.byte bytes h.0 h.1 (c.in-Broken.ensures.answers 17 imei_rows bytes h.1)

pub returns-in-Whole-push-clause-answers : goal.returns-in-Whole-push-clause-answers
returns-in-Whole-push-clause-answers g c after_login bytes has =
    let h = subst (λ (m : UpMachine). HasTaken m after_login bytes) c.in-Frame.is has in
    frame_whole after_login c.in-Whole-push.kind (bytes ++ c.args.byte ∷ []) h.0 (c.in-Whole-push.ensures.answers Up bytes h.1)

pub returns-in-Broken-push-clause-answers : goal.returns-in-Broken-push-clause-answers
returns-in-Broken-push-clause-answers g c after_login bytes has =
    let h = subst (λ (m : UpMachine). HasTaken m after_login bytes) c.in-Frame.is has in
    frame_broken after_login c.in-Broken-push.found.kind c.in-Broken-push.found.place (bytes ++ c.args.byte ∷ []) h.0 (c.in-Broken-push.ensures.answers Up bytes h.1)
