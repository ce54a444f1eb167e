use Rattle.frame_layout.proofs.DownLaws.{none_begins_down}
use Rattle.frame_layout.proofs.laws.no_down_item_begins_another.Goals as goal

pub returns : goal.returns
returns c = none_begins_down
