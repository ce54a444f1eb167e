use Rattle.session_core.proofs.Completing.{complete}
use Rattle.session_core.proofs.laws.well_formed_ends.Goals as goal

pub returns : goal.returns
returns g c = complete
