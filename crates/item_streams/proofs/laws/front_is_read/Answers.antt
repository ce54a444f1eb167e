use Rattle.item_streams.proofs.StreamLaws.{front_read}
use Rattle.item_streams.proofs.laws.front_is_read.Goals as goal

pub returns : goal.returns
returns g c = front_read
