use Rattle.std.proofs.Common.{◌≡◌, take}
use Rattle.shelf.specs.Shelf.{recs_of}
use Rattle.shelf.proofs.keep.copies.Given as goal

abbrev pub invariant-loop-stored : goal.invariant-loop-stored
invariant-loop-stored l = l.records.items ≡ recs_of (take l.stored-index l.list)
