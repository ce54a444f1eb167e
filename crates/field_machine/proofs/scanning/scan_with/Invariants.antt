use Rattle.std.proofs.Common.{◌≡◌, ◌+◌, ◌*◌, length}
use Rattle.layout.specs.Rows.{Rows}
use Rattle.field_machine.specs.Places.{turns}
use Rattle.field_machine.proofs.ScanSteps.{JudgedAt}
use Rattle.field_machine.proofs.scanning.scan_with.Given as goal

abbrev pub invariant-fields : goal.invariant-fields
invariant-fields g l = ((rows : Rows g.R.Place.Value) → g.R.Place.stands l.fn.first rows → JudgedAt g.R.Place.stands l.total rows l.have l.cursor l.place l.rest) × (l.place + length l.rest ≡ length l.have)

abbrev pub decreases-fields : goal.decreases-fields
decreases-fields g l = 2 * length l.rest + turns (g.R.Place.left_of l.cursor)
