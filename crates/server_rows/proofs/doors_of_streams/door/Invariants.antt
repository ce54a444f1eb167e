use Rattle.std.proofs.Common.{All}
use Rattle.doors.specs.MemoryDoors.{IsUnusedLink}
use Rattle.server_rows.proofs.doors_of_streams.door.Given as goal

abbrev pub invariant-loop-stream : goal.invariant-loop-stream
invariant-loop-stream l = All IsUnusedLink l.links.items
