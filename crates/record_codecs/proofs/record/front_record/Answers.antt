use Rattle.std.proofs.Common.{◌∷◌, sym, subst, ◌∙◌, arith}
use Rattle.record_layout.specs.RecordRows.{lone_record, parts_rows}
use Rattle.record_codecs.specs.PartWalk.{EndsWith, rows_left}
use Rattle.record_codecs.specs.RecordCursor.{nothing}
use Rattle.record_codecs.proofs.PartSteps.{stays, ended, and_no, and_on}
use Rattle.record_codecs.proofs.record.front_record.Goals as goal

pub loop-part-init : goal.loop-part-init
loop-part-init c =
    let rows = lone_record c.args.codec in
    subst (λ ps. EndsWith rows c.args.bytes.now (parts_rows ps 0 0 nothing) c.args.bytes.now) (sym c.parts-left.ensures) (stays rows c.args.bytes.now)

pub returns-in_err-walk-clause-end : goal.returns-in_err-walk-clause-end
returns-in_err-walk-clause-end c =
    let rows = lone_record c.args.codec in
    let bytes = c.args.bytes.now in
    let walk = c.loop-part.walk in
    let so_far = subst (λ ps. EndsWith rows bytes (rows_left ps walk) walk.rest.now) c.in-Some.ensures.cases.0 c.loop-part.invariant in
    c.from_residual.ensures ∙ sym (and_no rows (rows_left (c.in-Some.part.now ∷ c.in-Some.behind.now) walk) bytes walk.rest.now so_far c.in_err-walk.ensures 0)

pub loop-part-preserved : goal.loop-part-preserved
loop-part-preserved c =
    let rows = lone_record c.args.codec in
    let bytes = c.args.bytes.now in
    let walk = c.loop-part.walk in
    let next = c.in_ok-walk.walk in
    let so_far = subst (λ ps. EndsWith rows bytes (rows_left ps walk) walk.rest.now) c.in-Some.ensures.cases.0 c.loop-part.invariant in
    and_on rows (rows_left (c.in-Some.part.now ∷ c.in-Some.behind.now) walk) (rows_left c.in-Some.behind.now next) bytes walk.rest.now next.rest.now so_far c.in_ok-walk.ensures

pub overflow_sub-result : goal.overflow_sub-result
overflow_sub-result c = omega (arith, c.loop-part.invariant.within)

pub returns-clause-end : goal.returns-clause-end
returns-clause-end c =
    let walk = c.loop-part.walk in
    ended (lone_record c.args.codec) c.loop-part.left.now walk.total walk.counted c.args.bytes.now walk.rest.now c.in_default.ensures.cases c.loop-part.invariant
