use Rattle.std.proofs.Common.{◌≡◌, ◌+◌, ◌≤◌, [], ◌++◌, length, All, vec_capacity}
use Rattle.doors.specs.MemoryDoors.{IsUnusedLink}
use Rattle.doors.proofs.memory_door.MemoryDoor.new.Given as goal

abbrev pub invariant-loop-link : goal.invariant-loop-link
invariant-loop-link l = record {
  same : l.links.items ++ l.coming.items ≡ l.fn.links.items;
  left : All IsUnusedLink l.links.items;
  coming : All IsUnusedLink l.coming.items;
  none : l.ended.items ≡ [];
  room : length l.links.items + length l.coming.items ≤ vec_capacity l.ended;
}

abbrev pub decreases-loop-link : goal.decreases-loop-link
decreases-loop-link l = length l.links.items
