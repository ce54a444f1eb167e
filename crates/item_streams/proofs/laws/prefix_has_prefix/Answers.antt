use Rattle.item_streams.proofs.StreamLaws.{prefix}
use Rattle.item_streams.proofs.laws.prefix_has_prefix.Goals as goal

pub returns : goal.returns
returns g c = prefix
