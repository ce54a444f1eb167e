use Rattle.std.proofs.Common.{rules}
use Rattle.shelf.proofs.Lists.{added-known}
use Rattle.shelf.proofs.listing.Listing.add_bytes.Goals as goal

pub returns-in-Place-clause-added : goal.returns-in-Place-clause-added
returns-in-Place-clause-added c = added-known c.args.self.now c.args.imei c.in-Place.place (record { codec = c.args.codec; bytes = c.args.bytes.now }) (search rules)
