use Rattle.item_streams.proofs.StreamLaws.{has_reading}
use Rattle.item_streams.proofs.laws.each_has_reading.Goals as goal

pub returns : goal.returns
returns g c = has_reading
