use Rattle.item_streams.proofs.StreamLaws.{one_reading}
use Rattle.item_streams.proofs.laws.one_reading.Goals as goal

pub returns : goal.returns
returns g c = one_reading
