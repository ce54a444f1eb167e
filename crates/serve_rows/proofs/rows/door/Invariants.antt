use Rattle.std.proofs.Common.{All}
use Rattle.doors.specs.MemoryDoors.{IsUnusedLink}
use Rattle.serve_rows.proofs.rows.door.Given as goal

abbrev pub invariant-loop-stream : goal.invariant-loop-stream
invariant-loop-stream l = All IsUnusedLink l.links.items
