use Rattle.std.proofs.Common.{sym}
use Rattle.session_core.specs.Works.{meaning}
use Rattle.session_core.specs.Knowing.{knows}
use Rattle.session_core.proofs.Working.{greeted, greeted_part, sent_whole}
use Rattle.session_core.proofs.work.greet.Goals as goal

pub returns-in-Ok-clause-greets : goal.returns-in-Ok-clause-greets
returns-in-Ok-clause-greets g c =
    let known = sym c.if-not-knows.ensures in (
      greeted (meaning g.O.Orders.gives g.O.Orders.asked g.O.Orders.told) (knows c.args.known.now) c.args.imei c.args.orders.now _ c.has-knows.result _ _ _ known c.if-not-knows.false (c.answer_login-answer.ensures.answer)
          (sent_whole _ _ (sym c.if-is_err.ensures.value) c.send.ensures.whole) c.in-Ok.ensures.whole,
      c.ask.ensures.orders,
      known,
    )

pub returns-in-Err-clause-greets : goal.returns-in-Err-clause-greets
returns-in-Err-clause-greets g c =
    greeted_part (meaning g.O.Orders.gives g.O.Orders.asked g.O.Orders.told) (knows c.args.known.now) c.args.imei c.args.orders.now _ c.has-knows.result _ _ _ (sym c.if-not-knows.ensures) c.if-not-knows.false (c.answer_login-answer.ensures.answer)
    (sent_whole _ _ (sym c.if-is_err.ensures.value) c.send.ensures.whole) c.in-Err.ensures.part
