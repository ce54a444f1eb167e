use Rattle.std.proofs.Common.{◌≡◌, ◌++◌, take}
use Rattle.archive_journal.specs.Body.{joined}
use Rattle.archive_journal.proofs.body.write_body.Given as goal

abbrev pub invariant-loop-record : goal.invariant-loop-record
invariant-loop-record l = l.body.items ≡ l.initial.body.items ++ joined (take l.record-index l.records)
