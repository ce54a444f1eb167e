use Rattle.std.proofs.Common.{◌≡◌, ◌+◌, ◌≤◌, length, vec_capacity}
use Rattle.desk.specs.Desks.{AreNewSeats, opening}
use Rattle.desk.proofs.Deal.{IsDealing}
use Rattle.desk.proofs.desk.Desk.hand_out.Given as goal

abbrev pub invariant-loop : goal.invariant-loop
invariant-loop g l = record {
  at : length l.places.items + 1 ≡ l.counter;
  table : l.token.table_id ≡ l.self.table.shared.table_id;
  room : l.seats ≤ vec_capacity l.places;
  dealing : IsDealing (opening l.self) l.seats (length l.places.items) l.token.me;
  seats : AreNewSeats l.self l.places.items;
}
