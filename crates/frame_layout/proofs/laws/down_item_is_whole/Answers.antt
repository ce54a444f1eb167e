use Rattle.frame_layout.proofs.DownLaws.{down_whole}
use Rattle.frame_layout.proofs.laws.down_item_is_whole.Goals as goal

pub returns : goal.returns
returns c = down_whole
