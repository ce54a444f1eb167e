use Rattle.item_streams.proofs.StreamLaws.{none_empty}
use Rattle.item_streams.proofs.laws.none_is_empty.Goals as goal

pub returns : goal.returns
returns g c = none_empty
