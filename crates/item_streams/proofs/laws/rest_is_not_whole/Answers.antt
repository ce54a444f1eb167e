use Rattle.item_streams.proofs.StreamLaws.{rest_not_whole}
use Rattle.item_streams.proofs.laws.rest_is_not_whole.Goals as goal

pub returns : goal.returns
returns g c = rest_not_whole
