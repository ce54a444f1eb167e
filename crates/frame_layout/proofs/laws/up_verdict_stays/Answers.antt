use Rattle.frame_layout.proofs.UpLaws.{up_stays}
use Rattle.frame_layout.proofs.laws.up_verdict_stays.Goals as goal

pub returns : goal.returns
returns c = up_stays
