use Rattle.desk.proofs.Taking.{new-seats}
use Rattle.timings.proofs.desk_work.at_desk.Goals as goal

pub seated-requires : goal.seated-requires
seated-requires g c = new-seats _ _ c.in-Ok.ensures.seats
