use Rattle.frame_layout.proofs.PlaceLaws.{up_said}
use Rattle.frame_layout.proofs.laws.up_item_is_said.Goals as goal

pub returns : goal.returns
returns c = up_said
