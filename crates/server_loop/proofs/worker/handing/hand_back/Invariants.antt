use Rattle.std.proofs.Common.{◌≡◌, ◌++◌, map, vec_capacity}
use Rattle.std.specs.Vec.Iter.{into_iter_items}
use Rattle.server_loop.specs.Staff.{AreJoinedIn, door_of, report_of}
use Rattle.server_loop.proofs.worker.handing.hand_back.Given as goal

abbrev pub invariant-loop-worker : goal.invariant-loop-worker
invariant-loop-worker g l = record {
  left : l.yielded ++ into_iter_items l.worker-iterator ≡ l.fn.workers.items;
  doors_room : vec_capacity l.doors ≡ vec_capacity l.fn.doors;
  reports_room : vec_capacity l.reports ≡ vec_capacity l.fn.reports;
  doors : l.doors.items ≡ map door_of l.yielded;
  reports : l.reports.items ≡ map report_of l.yielded;
  joined : AreJoinedIn l.desk l.yielded l.joined;
}
