use Rattle.flash_ring.proofs.HeldRecords.{next_of-least, next_of-put, next_of-may_close}
use Rattle.flash_ring.proofs.laws.next_is_above_all.Goals as goal

pub returns-clause-least : goal.returns-clause-least
returns-clause-least c = next_of-least

pub returns-clause-put : goal.returns-clause-put
returns-clause-put c = next_of-put

pub returns-clause-closed : goal.returns-clause-closed
returns-clause-closed c = next_of-may_close
