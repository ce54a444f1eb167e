use Rattle.trial_wire.proofs.OneStream.{frames_are_read as law}
use Rattle.trial_wire.proofs.laws.frames_are_read.Goals as goal

pub returns : goal.returns
returns c = law
