use Rattle.flash_ring.proofs.Selections.{empty-selected, selected-empty}
use Rattle.flash_ring.proofs.laws.nothing_is_selected_where_nothing_is_held.Goals as goal

pub returns-clause-empty : goal.returns-clause-empty
returns-clause-empty c = empty-selected

pub returns-clause-nowhere_else : goal.returns-clause-nowhere_else
returns-clause-nowhere_else c = selected-empty
