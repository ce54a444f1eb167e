use Rattle.item_streams.proofs.ReaderSteps.{reads_broken}
use Rattle.item_streams.proofs.laws.reads_broken.Goals as goal

pub returns : goal.returns
returns g c rows lent = reads_broken rows lent
