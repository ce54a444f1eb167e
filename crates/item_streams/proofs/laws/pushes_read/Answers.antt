use Rattle.item_streams.proofs.ReaderSteps.{pushes_read}
use Rattle.item_streams.proofs.laws.pushes_read.Goals as goal

pub returns : goal.returns
returns g c rows lent = pushes_read rows lent
