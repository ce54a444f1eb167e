use Rattle.frame_layout.proofs.PlaceLaws.{up_place}
use Rattle.frame_layout.proofs.laws.up_item_has_place.Goals as goal

pub returns : goal.returns
returns c = up_place
