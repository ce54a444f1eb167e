use Rattle.std.proofs.Common.{◌≡◌, ◌≤◌, length, All, vec_capacity}
use Rattle.server_loop.specs.Staff.{HasRoom}
use Rattle.server_loop.proofs.worker.handing.rooms.Given as goal

abbrev pub invariant-loop : goal.invariant-loop
invariant-loop l = record {
  count : length l.rooms.items ≡ l.counter;
  room : l.count ≤ vec_capacity l.rooms;
  rooms : All (HasRoom l.sessions) l.rooms.items;
}
