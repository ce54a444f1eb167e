use Rattle.item_streams.proofs.StreamLaws.{completes}
use Rattle.item_streams.proofs.laws.rest_completes.Goals as goal

pub returns : goal.returns
returns g c = completes
