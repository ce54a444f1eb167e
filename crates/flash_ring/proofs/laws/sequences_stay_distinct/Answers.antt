use Rattle.flash_ring.proofs.Sequences.{distinct-formatted, distinct-put, distinct-may_close, distinct-with_room}
use Rattle.flash_ring.proofs.laws.sequences_stay_distinct.Goals as goal

pub returns-clause-formatted : goal.returns-clause-formatted
returns-clause-formatted c = distinct-formatted

pub returns-clause-put : goal.returns-clause-put
returns-clause-put c = distinct-put

pub returns-clause-closed : goal.returns-clause-closed
returns-clause-closed c = distinct-may_close

pub returns-clause-room : goal.returns-clause-room
returns-clause-room c = distinct-with_room
