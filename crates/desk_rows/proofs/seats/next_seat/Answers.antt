use Rattle.desk.proofs.Taking.{taken-has, left-have}
use Rattle.desk_rows.specs.Seats.{StandsForSeats}
use Rattle.desk_rows.proofs.seats.next_seat.Goals as goal

pub returns-clause-seat : goal.returns-clause-seat
returns-clause-seat c = taken-has (StandsForSeats c.args.desk.now 1) _ _ _ c.pop.ensures.items c.requires

pub returns-clause-left : goal.returns-clause-left
returns-clause-left c = left-have (StandsForSeats c.args.desk.now 1) _ _ _ c.pop.ensures.items c.requires
