use Rattle.frame_layout.proofs.PlaceLaws.{down_said}
use Rattle.frame_layout.proofs.laws.down_item_is_said.Goals as goal

pub returns : goal.returns
returns c = down_said
