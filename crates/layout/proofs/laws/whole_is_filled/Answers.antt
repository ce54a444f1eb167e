use Rattle.layout.proofs.RowLaws.{filled}
use Rattle.layout.proofs.laws.whole_is_filled.Goals as goal

pub returns : goal.returns
returns g c = filled
