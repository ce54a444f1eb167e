use Rattle.frame_layout.proofs.Lengths.{starts_short_up}
use Rattle.frame_layout.proofs.laws.up_begins.Goals as goal

pub returns : goal.returns
returns c = starts_short_up
