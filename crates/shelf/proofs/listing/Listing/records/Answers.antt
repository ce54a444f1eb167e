use Rattle.std.proofs.Common.{List, subst}
use Rattle.shelf.specs.Archive.{StoredValue}
use Rattle.record_lists.specs.EachOnce.{IsOnce}
use Rattle.shelf.proofs.listing.Listing.records.Goals as goal

pub returns-clause-once : goal.returns-clause-once
returns-clause-once c = let P : List StoredValue → Type 0 = λ l. IsOnce l in subst P c.self.view_is c.self.invariant.once
