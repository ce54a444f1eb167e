use Rattle.std.proofs.Common.{refl, arith}
use Rattle.command_codecs.proofs.CursorSteps.{size_fails, with_time, without_time}
use Rattle.command_codecs.proofs.cursor.after_size.Goals as goal

pub returns-in-None-clause-follows : goal.returns-in-None-clause-follows
returns-in-None-clause-follows c way v field n = size_fails way c.args.total c.args.value c.args.row v field n (λ e f. c.in-None.ensures.wrong refl e (omega (arith, f, c.least.ensures.is)))

pub returns-then-row-clause-follows : goal.returns-then-row-clause-follows
returns-then-row-clause-follows c way v field n =
    let r = c.in-Some.ensures.right in
    with_time way c.args.total c.args.value c.in-Some.text c.args.row v field n r.0 (omega (arith, r.1, c.least.ensures.is)) (omega (arith, r.2, c.least.ensures.is)) c.if-row.true

pub returns-else-row-clause-follows : goal.returns-else-row-clause-follows
returns-else-row-clause-follows c way v field n =
    let r = c.in-Some.ensures.right in
    without_time way c.args.total c.args.value c.in-Some.text c.args.row v field c.at_imei.result n r.0 (omega (arith, r.1, c.least.ensures.is)) (omega (arith, r.2, c.least.ensures.is)) c.if-row.false
    (c.at_imei.ensures.rows way c.args.total)
