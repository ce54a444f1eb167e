use Rattle.flash_ring.proofs.HeldRecords.{held_of-may_close}
use Rattle.flash_ring.proofs.Batches.{held_of-kept, held_of-no_more}
use Rattle.flash_ring.proofs.laws.closing_some_leaves_a_part.Goals as goal

pub returns-clause-part : goal.returns-clause-part
returns-clause-part c = held_of-may_close

pub returns-clause-kept : goal.returns-clause-kept
returns-clause-kept c = held_of-kept

pub returns-clause-no_more : goal.returns-clause-no_more
returns-clause-no_more c = held_of-no_more
