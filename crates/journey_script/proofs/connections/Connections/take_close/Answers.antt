use Rattle.std.proofs.Common.{rules}
use Rattle.arrayvec.proofs.ArrayVecLemmas.{filter-from_retain}
use Rattle.journey_script.proofs.connections.Connections.take_close.Goals as goal

pub returns-clause-half_open : goal.returns-clause-half_open
returns-clause-half_open c = filter-from_retain _ _ _ (search rules) _ _ c.retain.ensures.filtered
