use Rattle.layout.proofs.RowLaws.{stays}
use Rattle.layout.proofs.laws.verdict_stays.Goals as goal

pub returns : goal.returns
returns g c = stays
