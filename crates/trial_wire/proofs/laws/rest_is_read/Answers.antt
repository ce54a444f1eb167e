use Rattle.trial_wire.proofs.OneStream.{rest_is_read as law}
use Rattle.trial_wire.proofs.laws.rest_is_read.Goals as goal

pub returns : goal.returns
returns c = law
