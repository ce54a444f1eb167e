use Rattle.frame_layout.proofs.UpLaws.{none_begins_up}
use Rattle.frame_layout.proofs.laws.no_up_item_begins_another.Goals as goal

pub returns : goal.returns
returns c = none_begins_up
