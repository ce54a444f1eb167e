use Rattle.item_streams.proofs.StreamLaws.{same_values}
use Rattle.item_streams.proofs.laws.place_says_nothing.Goals as goal

pub returns : goal.returns
returns g c = same_values
