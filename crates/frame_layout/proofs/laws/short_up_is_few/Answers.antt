use Rattle.frame_layout.proofs.Lengths.{short_up_few}
use Rattle.frame_layout.proofs.laws.short_up_is_few.Goals as goal

pub returns : goal.returns
returns c = short_up_few
