use Rattle.frame_layout.proofs.UpLaws.{whole_up}
use Rattle.frame_layout.proofs.laws.whole_is_up_item.Goals as goal

pub returns : goal.returns
returns c = whole_up
