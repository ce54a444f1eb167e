use Rattle.flash_ring.proofs.Entries.{held_of-put}
use Rattle.flash_ring.proofs.laws.put_goes_last.Goals as goal

pub returns : goal.returns
returns c = held_of-put
