use Rattle.layout.proofs.WithinLaws.{inside}
use Rattle.layout.proofs.laws.within_filled.Goals as goal

pub returns : goal.returns
returns g c = inside
