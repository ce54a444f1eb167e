use Rattle.layout.proofs.WithinLaws.{around}
use Rattle.layout.proofs.laws.filled_within.Goals as goal

pub returns : goal.returns
returns g c = around
