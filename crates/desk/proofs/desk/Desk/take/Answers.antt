use Rattle.std.proofs.Common.{Some}
use Rattle.desk.proofs.Shelves.{held-one}
use Rattle.desk.proofs.desk.Desk.take.Goals as goal

pub exchange-requires : goal.exchange-requires
exchange-requires g c = let h = c.requires.holds in (c.requires.table, (Some h.0, held-one _ (Some h.0) h.1))
