use Rattle.std.proofs.Common.{rules}
use Rattle.desk_rows.proofs.Taking.{new-seats}
use Rattle.desk_rows.proofs.threads.at_one_desk.Goals as goal

pub eight-requires : goal.eight-requires
eight-requires g c = (search rules, new-seats _ _ c.in-Ok.ensures.seats)
