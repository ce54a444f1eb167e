use Rattle.std.proofs.Common.{arith}
use Rattle.desk.proofs.Draw.{draws}
use Rattle.desk.proofs.desk.Desk.draw.Goals as goal

pub fetch_add-requires : goal.fetch_add-requires
fetch_add-requires g c = let sized = c.args.self.now.sized in (c.requires.table, omega (arith, sized.0), draws _ _ _ _ _ c.requires.idle)
