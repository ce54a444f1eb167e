use Rattle.std.proofs.Common.{sym, arith}
use Rattle.field_machine.proofs.MachineSteps.{enters_excess, enters_whole, enters_overrun, enters_field}
use Rattle.field_machine.proofs.machine.Machine.at_some_field.Goals as goal

pub returns-then-room-gt0 : goal.returns-then-room-gt0
returns-then-room-gt0 g c some = enters_excess g.C.Place.left_of g.C.Place.says g.C.Place.stands g.met.C.Place.leaves c.args.total c.args.place c.args.cursor c.in-Nothing.head (sym c.in-Nothing.ensures) c.if-room-gt0.true

pub returns-else-room-gt0 : goal.returns-else-room-gt0
returns-else-room-gt0 g c some =
    enters_whole g.C.Place.left_of g.C.Place.says g.C.Place.stands g.met.C.Place.leaves c.args.total c.args.place c.args.cursor c.in-Nothing.head (sym c.in-Nothing.ensures) (omega (arith, c.if-room-gt0.false)) (omega (arith, c.if-room-gt0.false, c.requires))

pub returns-then-width-from : goal.returns-then-width-from
returns-then-width-from g c some =
    enters_overrun g.C.Place.left_of g.C.Place.says g.C.Place.stands g.met.C.Place.leaves c.args.total c.args.place c.in-Field.width c.args.cursor (sym c.in-Field.ensures) (omega (arith, c.if-width-from.true, c.from.ensures))

pub returns-else-width-from : goal.returns-else-width-from
returns-else-width-from g c some =
    enters_field g.C.Place.left_of g.C.Place.says g.C.Place.stands g.met.C.Place.leaves c.args.total c.args.place c.in-Field.width c.args.cursor (sym c.in-Field.ensures) (omega (arith, c.if-width-from.false, c.from.ensures, c.requires)) some
