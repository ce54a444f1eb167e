use Rattle.item_streams.proofs.ReaderSteps.{reads_on}
use Rattle.item_streams.proofs.laws.reads_on.Goals as goal

pub returns : goal.returns
returns g c rows lent = reads_on rows lent
