use Rattle.desk.specs.Desks.{AreSeatsOf}
use Rattle.timings.proofs.desk_work.seated.Given as goal

abbrev pub invariant-loop-number : goal.invariant-loop-number
invariant-loop-number g l = AreSeatsOf l.desk l.places.items
