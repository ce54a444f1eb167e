use Rattle.item_streams.proofs.ReaderSteps.{reads_all}
use Rattle.item_streams.proofs.laws.reads_all.Goals as goal

pub returns : goal.returns
returns g c rows = reads_all rows (λ v body. body)
