use Rattle.frame_layout.proofs.UpLaws.{up_whole}
use Rattle.frame_layout.proofs.laws.up_item_is_whole.Goals as goal

pub returns : goal.returns
returns c = up_whole
