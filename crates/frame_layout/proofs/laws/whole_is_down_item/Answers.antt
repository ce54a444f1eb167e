use Rattle.frame_layout.proofs.DownLaws.{whole_down}
use Rattle.frame_layout.proofs.laws.whole_is_down_item.Goals as goal

pub returns : goal.returns
returns c = whole_down
