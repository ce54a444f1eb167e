use Rattle.std.proofs.Common.{rules}
use Rattle.shelf.proofs.Lists.{added-known}
use Rattle.shelf.proofs.listing.Listing.add.Goals as goal

pub returns-in-Place-clause-added : goal.returns-in-Place-clause-added
returns-in-Place-clause-added c = added-known c.args.self.now c.args.imei c.in-Place.place c.args.rec (search rules)
