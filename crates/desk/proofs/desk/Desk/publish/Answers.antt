use Rattle.std.proofs.Common.{arith, ap}
use Rattle.shelf.specs.Entries.{Entry}
use Rattle.desk.proofs.Publish.{publishes}
use Rattle.desk.proofs.desk.Desk.publish.Goals as goal

pub fetch_add-served-requires : goal.fetch_add-served-requires
fetch_add-served-requires g c = let sized = c.args.self.now.sized in let h = c.requires.shelf in
    (c.requires.table, omega (arith, sized.0), publishes _ _ _ _ _ _ h.0 sized.1 c.requires.holding h.1 (ap (λ (e : Entry). e.seat) c.requires.said) c.requires.legal h.2)
