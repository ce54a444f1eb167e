use Rattle.std.proofs.Common.{◌≡◌, ◌+◌, ◌++◌, length, map, All, vec_capacity}
use Rattle.std.specs.Vec.Iter.{into_iter_items}
use Rattle.server_loop.specs.Staff.{AllStaffed, HasRoom, door_of}
use Rattle.server_loop.proofs.Staffing.{AreLeft}
use Rattle.server_loop.proofs.worker.handing.staff.Given as goal

abbrev pub invariant-loop-door : goal.invariant-loop-door
invariant-loop-door g l = record {
  left : l.yielded ++ into_iter_items l.door-iterator ≡ l.fn.doors.items;
  room : vec_capacity l.workers ≡ vec_capacity l.fn.workers;
  doors : map door_of l.workers.items ≡ l.yielded;
  staffed : AllStaffed l.desk l.sessions l.workers.items;
  seats : AreLeft l.desk (length l.workers.items) l.seats.items;
  seats_count : length l.seats.items + length l.workers.items ≡ length l.fn.doors.items;
  rooms : All (HasRoom l.sessions) l.rooms.items;
  rooms_count : length l.rooms.items + length l.workers.items ≡ length l.fn.doors.items;
}
