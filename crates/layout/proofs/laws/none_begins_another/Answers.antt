use Rattle.layout.proofs.RowLaws.{none_begins}
use Rattle.layout.proofs.laws.none_begins_another.Goals as goal

pub returns : goal.returns
returns g c = none_begins
