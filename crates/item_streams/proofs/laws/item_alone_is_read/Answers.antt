use Rattle.item_streams.proofs.StreamLaws.{alone_read}
use Rattle.item_streams.proofs.laws.item_alone_is_read.Goals as goal

pub returns : goal.returns
returns g c = alone_read
