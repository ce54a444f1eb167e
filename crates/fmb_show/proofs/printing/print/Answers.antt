use Rattle.fmb_show.proofs.Printings.{failed_on, left_alone, written_on}
use Rattle.fmb_show.proofs.printing.print.Goals as goal

pub returns-then-failed : goal.returns-then-failed
returns-then-failed g c = λ start printed has. left_alone start _ (g.K.Sink.state c.args.sink.now) printed c.args.text.now (rw c.if-failed.true at has)

pub returns-in-Ok : goal.returns-in-Ok
returns-in-Ok g c = λ start printed has.
    written_on start _ _ printed c.args.text.now (rw c.if-failed.false at has) c.in-Ok.ensures.whole c.in-Ok.ensures.cause.passed

pub returns-in-Err : goal.returns-in-Err
returns-in-Err g c = λ start printed has.
    failed_on start _ _ printed c.args.text.now (rw c.if-failed.false at has) c.in-Err.ensures.front c.in-Err.ensures.cause.failed c.in-Err.ensures.cause.later
