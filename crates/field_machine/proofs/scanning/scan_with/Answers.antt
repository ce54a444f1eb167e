use Rattle.std.proofs.Common.{◌-◌, ◌≤◌, length, arith, sym, subst, Ok, Err}
use Rattle.field_machine.specs.Places.{Follows}
use Rattle.field_machine.proofs.Fields.{falls, field_here}
use Rattle.field_machine.proofs.ScanSteps.{judged_first, ended_whole, ended_excess, overrun_at, missing_at, failed_at, judged_next}
use Rattle.field_machine.proofs.scanning.scan_with.Goals as goal

pub fields-init : goal.fields-init
fields-init g c = (λ rows at. judged_first g.R.Place.left_of g.R.Place.says g.R.Place.stands g.met.R.Place.leaves c.args.total rows c.args.have.now c.args.first at, omega arith)

pub returns-then-room-gt0 : goal.returns-then-room-gt0
returns-then-room-gt0 g c rows at =
    ended_excess g.R.Place.left_of g.R.Place.says g.R.Place.stands g.met.R.Place.leaves c.args.total c.fields.place rows c.args.have.now c.fields.rest.now c.fields.cursor c.in-Nothing.head (c.fields.invariant.0 rows at) (sym c.in-Nothing.ensures) c.if-room-gt0.true

pub returns-in-Nothing : goal.returns-in-Nothing
returns-in-Nothing g c rows at =
    ended_whole g.R.Place.left_of g.R.Place.says g.R.Place.stands g.met.R.Place.leaves c.args.total c.fields.place rows c.args.have.now c.fields.rest.now c.fields.cursor c.in-Nothing.head (c.fields.invariant.0 rows at) (sym c.in-Nothing.ensures) (omega (arith, c.if-room-gt0.false)) (omega (arith, c.if-room-gt0.false, c.fields.invariant.1))

pub returns-then-width-from : goal.returns-then-width-from
returns-then-width-from g c rows at =
    overrun_at g.R.Place.left_of g.R.Place.says g.R.Place.stands g.met.R.Place.leaves c.args.total c.fields.place c.in-Field.width rows c.args.have.now c.fields.rest.now c.fields.cursor (c.fields.invariant.0 rows at) (sym c.in-Field.ensures) (omega (arith, c.if-width-from.true, c.from.ensures))

pub returns-then-rest-width : goal.returns-then-rest-width
returns-then-rest-width g c rows at =
    missing_at g.R.Place.left_of g.R.Place.says g.R.Place.stands g.met.R.Place.leaves c.args.total c.fields.place c.in-Field.width rows c.args.have.now c.fields.rest.now c.fields.cursor (c.fields.invariant.0 rows at) (sym c.in-Field.ensures) (omega (arith, c.if-width-from.false, c.from.ensures)) (omega (arith, c.if-rest-width.true))

pub read-requires : goal.read-requires
read-requires g c =
    let w = c.in-Field.width in
    let rest = c.fields.rest.now in
    let long : w ≤ length rest = omega (arith, c.if-rest-width.false) in
    field_here (g.R.Place.left_of c.fields.cursor) w rest c.split_at.result.0.now (sym c.in-Field.ensures) long c.split_at.ensures.front

pub returns-in-Err : goal.returns-in-Err
returns-in-Err g c rows at =
    let w = c.in-Field.width in
    let rest = c.fields.rest.now in
    let fits : w ≤ c.args.total - c.fields.place = omega (arith, c.if-width-from.false, c.from.ensures) in
    let long : w ≤ length rest = omega (arith, c.if-rest-width.false) in
    failed_at g.R.Place.left_of g.R.Place.says g.R.Place.stands g.met.R.Place.leaves c.args.total c.fields.place w rows c.args.have.now rest c.fields.cursor c.in-Err.kind (c.fields.invariant.0 rows at) (sym c.in-Field.ensures) fits long
    (λ here stand. subst (λ f. Follows g.R.Place.stands here f (Err c.in-Err.kind)) c.split_at.ensures.front (c.in-Err.ensures.follows here stand))

pub fields-preserved : goal.fields-preserved
fields-preserved g c =
    let w = c.in-Field.width in
    let rest = c.fields.rest.now in
    let fits : w ≤ c.args.total - c.fields.place = omega (arith, c.if-width-from.false, c.from.ensures) in
    let long : w ≤ length rest = omega (arith, c.if-rest-width.false) in (
      λ rows at. judged_next g.R.Place.left_of g.R.Place.says g.R.Place.stands g.met.R.Place.leaves c.args.total c.fields.place w rows c.args.have.now rest c.split_at.result.1.now c.fields.cursor c.in-Ok.next (c.fields.invariant.0 rows at) (sym c.in-Field.ensures) fits long
          (λ here stand. subst (λ f. Follows g.R.Place.stands here f (Ok c.in-Ok.next)) c.split_at.ensures.front (c.in-Ok.ensures.follows here stand))
          c.split_at.ensures.back,
      omega (arith, c.fields.invariant.1, c.split_at.ensures.back_len),
    )

pub fields-smaller : goal.fields-smaller
fields-smaller g c =
    let w = c.in-Field.width in
    let rest = c.fields.rest.now in
    let long : w ≤ length rest = omega (arith, c.if-rest-width.false) in
    falls (g.R.Place.left_of c.fields.cursor) (g.R.Place.left_of c.in-Ok.next) w rest c.split_at.result.1.now long c.split_at.ensures.back (sym c.in-Field.ensures) c.in-Ok.ensures.turns
