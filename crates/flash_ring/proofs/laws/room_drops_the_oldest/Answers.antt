use Rattle.flash_ring.proofs.HeldRecords.{held_of-with_room}
use Rattle.flash_ring.proofs.laws.room_drops_the_oldest.Goals as goal

pub returns : goal.returns
returns c = held_of-with_room
