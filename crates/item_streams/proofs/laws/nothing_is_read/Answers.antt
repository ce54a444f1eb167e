use Rattle.item_streams.proofs.StreamLaws.{nothing_read}
use Rattle.item_streams.proofs.laws.nothing_is_read.Goals as goal

pub returns : goal.returns
returns g c = nothing_read
