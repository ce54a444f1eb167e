use Rattle.item_streams.proofs.StreamLaws.{compose}
use Rattle.item_streams.proofs.laws.streams_compose.Goals as goal

pub returns : goal.returns
returns g c = compose
