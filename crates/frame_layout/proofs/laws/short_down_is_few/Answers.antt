use Rattle.frame_layout.proofs.Lengths.{short_down_few}
use Rattle.frame_layout.proofs.laws.short_down_is_few.Goals as goal

pub returns : goal.returns
returns c = short_down_few
