use Rattle.desk_rows.specs.Seats.{StandsForSeats}
use Rattle.desk_rows.proofs.threads.one.Given as goal

abbrev pub invariant-loop-number : goal.invariant-loop-number
invariant-loop-number g l = StandsForSeats l.desk 1 l.seat
