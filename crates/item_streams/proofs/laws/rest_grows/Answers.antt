use Rattle.item_streams.proofs.StreamLaws.{grows}
use Rattle.item_streams.proofs.laws.rest_grows.Goals as goal

pub returns : goal.returns
returns g c = grows
