use Rattle.item_streams.proofs.Ending.{ends_inside}
use Rattle.item_streams.proofs.laws.prefix_items_end_inside.Goals as goal

pub returns : goal.returns
returns g c = ends_inside
