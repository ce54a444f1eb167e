use Rattle.desk_rows.proofs.Taking.{new-seats}
use Rattle.desk_rows.proofs.one_after_the_other.at_one_seat.Goals as goal

pub next_seat-requires : goal.next_seat-requires
next_seat-requires g c = new-seats _ _ c.in-Ok.ensures.seats
