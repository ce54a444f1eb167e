use Rattle.std.proofs.Common.{◌≡◌}
use Rattle.std.specs.Vec.Iter.{into_iter_items}
use Rattle.shelf.specs.Archive.{listed}
use Rattle.shelf.proofs.listing.Listing.of.Given as goal

abbrev pub invariant-loop-entry : goal.invariant-loop-entry
invariant-loop-entry l = listed l.listing (into_iter_items l.entry-iterator) ≡ listed l.initial.listing (into_iter_items l.initial.entry-iterator)
