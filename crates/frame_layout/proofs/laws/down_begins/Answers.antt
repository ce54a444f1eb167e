use Rattle.frame_layout.proofs.Lengths.{starts_short_down}
use Rattle.frame_layout.proofs.laws.down_begins.Goals as goal

pub returns : goal.returns
returns c = starts_short_down
