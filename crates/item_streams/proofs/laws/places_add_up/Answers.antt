use Rattle.item_streams.proofs.StreamLaws.{add_up}
use Rattle.item_streams.proofs.laws.places_add_up.Goals as goal

pub returns : goal.returns
returns g c = add_up
