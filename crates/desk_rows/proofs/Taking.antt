-- The seats of a new desk, each for itself.
use Rattle.std.proofs.Common.{List, length, ap}
use Rattle.medium_model.specs.declared.medium.Medium.{Ghosts}
use Rattle.desk.specs.declared.desk.Desk.{Desk}
use Rattle.desk.specs.declared.desk.Seat.{Seat}
use Rattle.desk.specs.Desks.{AreNewSeats}
use Rattle.desk_rows.specs.Seats.{AreSeats}

pub new-seats : {M : Type 0} {d : Ghosts M} (desk : Desk M) (seats : List (Seat M d)) → AreNewSeats desk seats → AreSeats desk seats
new-seats desk seats are k seat at = let new = are k seat at in record { of_desk = new.of_desk; count = ap length new.own }
