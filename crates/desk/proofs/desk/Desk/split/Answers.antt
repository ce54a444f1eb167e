use Rattle.std.proofs.Common.{arith}
use Rattle.desk.proofs.Split.{splits}
use Rattle.desk.proofs.desk.Desk.split.Goals as goal

pub split_seat-requires : goal.split_seat-requires
split_seat-requires g c = let sized = c.args.self.now.sized in (c.requires.table, omega (arith, sized.0), splits _ _ _ _ c.requires.idle)
