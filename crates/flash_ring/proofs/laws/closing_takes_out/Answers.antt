use Rattle.flash_ring.proofs.Batches.{held_of-closed}
use Rattle.flash_ring.proofs.HeldRecords.{length-held_of_closed}
use Rattle.flash_ring.proofs.laws.closing_takes_out.Goals as goal

pub returns-clause-records : goal.returns-clause-records
returns-clause-records c = held_of-closed

pub returns-clause-count : goal.returns-clause-count
returns-clause-count c = length-held_of_closed
