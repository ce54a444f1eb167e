use Rattle.flash_ring.proofs.Batches.{recs-selected, held_of-released}
use Rattle.flash_ring.proofs.laws.selection_is_a_front.Goals as goal

pub returns-clause-front : goal.returns-clause-front
returns-clause-front c = recs-selected

pub returns-clause-released : goal.returns-clause-released
returns-clause-released c = held_of-released
