use Rattle.std.proofs.Common.{arith}
use Rattle.std.proofs.lemmas.List.Elements.{All-drop}
use Rattle.doors.specs.MemoryDoors.{IsUnusedLink}
use Rattle.doors.proofs.memory_door.MemoryDoorDoor.accept.Goals as goal

pub invariant_of-self-in-Some : goal.invariant_of-self-in-Some
invariant_of-self-in-Some c = (
  rw c.pop_front.ensures.rest (All-drop IsUnusedLink 1 c.self.inside.coming.items c.self.invariant.0),
  (let room = c.self.invariant.1 in let fewer = c.in-Some.ensures.cases in omega arith),
)
