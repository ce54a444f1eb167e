use Rattle.std.proofs.Common.{sym}
use Rattle.field_machine.proofs.MachineSteps.{fresh}
use Rattle.field_machine.proofs.machine.Machine.new.Goals as goal

pub returns : goal.returns
returns g c rows at = fresh g.C.Place.left_of g.C.Place.says g.C.Place.stands g.met.C.Place.leaves c.args.total c.in-Field.missing c.args.first rows at (sym c.in-Field.ensures) c.requires
