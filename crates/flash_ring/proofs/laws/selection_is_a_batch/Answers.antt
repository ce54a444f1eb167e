use Rattle.flash_ring.proofs.Selections.{selected-batch, selected-few}
use Rattle.flash_ring.proofs.laws.selection_is_a_batch.Goals as goal

pub returns-clause-batch : goal.returns-clause-batch
returns-clause-batch c = selected-batch

pub returns-clause-few : goal.returns-clause-few
returns-clause-few c = selected-few
