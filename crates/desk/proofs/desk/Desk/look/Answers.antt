use Rattle.std.proofs.Common.{arith}
use Rattle.desk.proofs.Look.{looks}
use Rattle.desk.proofs.desk.Desk.look.Goals as goal

pub load-requires : goal.load-requires
load-requires g c = let sized = c.args.self.now.sized in (c.requires.table, omega (arith, sized.0), looks _ _ _ _ _ c.requires.waiting c.requires.bare)
