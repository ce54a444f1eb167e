use Rattle.shelf.specs.Index.{place_in}
use Rattle.shelf.proofs.Indexed.{ArePassed}
use Rattle.shelf.proofs.listing.find.Given as goal

abbrev pub invariant-loop-step : goal.invariant-loop-step
invariant-loop-step l = ArePassed l.list (place_in l.places) l.imei (record { codec = l.codec; bytes = l.bytes }) l.step
