use Rattle.session_core.proofs.Archiving.{archived}
use Rattle.session_core.proofs.laws.counted_is_archived.Goals as goal

pub returns : goal.returns
returns c = archived
