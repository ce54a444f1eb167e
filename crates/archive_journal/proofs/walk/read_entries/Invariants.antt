use Rattle.std.proofs.Common.{◌-◌, length}
use Rattle.archive_journal.specs.Places.{StandIn}
use Rattle.archive_journal.proofs.walk.read_entries.Given as goal

abbrev pub invariant-entries : goal.invariant-entries
invariant-entries l = StandIn l.entries l.gate l.file

abbrev pub decreases-entries : goal.decreases-entries
decreases-entries l = length l.file - l.gate
