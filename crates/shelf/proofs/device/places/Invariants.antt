use Rattle.std.proofs.Common.{◌≡◌, ◌++◌, drop}
use Rattle.shelf.specs.Archive.{places_from, places_of}
use Rattle.shelf.proofs.device.places.Given as goal

abbrev pub invariant-loop-place : goal.invariant-loop-place
invariant-loop-place l = l.places.items ++ places_from l.place (drop l.place l.list) l.imei ≡ places_of l.list l.imei
