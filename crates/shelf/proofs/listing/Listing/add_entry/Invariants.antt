use Rattle.std.proofs.Common.{◌≡◌}
use Rattle.std.specs.List.{AllByRecursion}
use Rattle.std.specs.Vec.Iter.{into_iter_items}
use Rattle.record_layout.specs.SomeRecord.{IsSomeRecord}
use Rattle.shelf.specs.Archive.{admitted}
use Rattle.shelf.proofs.listing.Listing.add_entry.Given as goal

abbrev pub invariant-loop-rec : goal.invariant-loop-rec
invariant-loop-rec l = record {
  sound : AllByRecursion (λ r. IsSomeRecord r.codec r.bytes) (into_iter_items l.rec-iterator);
  grows : admitted l.self l.imei (into_iter_items l.rec-iterator) ≡ admitted l.initial.self l.imei (into_iter_items l.initial.rec-iterator);
}
