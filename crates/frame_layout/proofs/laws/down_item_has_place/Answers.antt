use Rattle.frame_layout.proofs.PlaceLaws.{down_place}
use Rattle.frame_layout.proofs.laws.down_item_has_place.Goals as goal

pub returns : goal.returns
returns c = down_place
