use Rattle.frame_layout.proofs.DownLaws.{down_stays}
use Rattle.frame_layout.proofs.laws.down_verdict_stays.Goals as goal

pub returns : goal.returns
returns c = down_stays
