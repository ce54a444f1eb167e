use Rattle.std.proofs.Common.{◌≡◌, take, map}
use Rattle.avl_values.specs.declared.order.Order.TheVariants.{Oldest}
use Rattle.flash_ring.specs.Entries.{entries_of, rec_of}
use Rattle.flash_ring.proofs.listing.list.Given as goal

abbrev pub invariant-loop-at : goal.invariant-loop-at
invariant-loop-at l = l.records ≡ map rec_of (take l.at (entries_of Oldest l.slots))
