use Rattle.layout.proofs.RowLaws.{is_whole}
use Rattle.layout.proofs.laws.filled_is_whole.Goals as goal

pub returns : goal.returns
returns g c = is_whole
