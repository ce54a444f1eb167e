use Rattle.std.proofs.Common.{◌≡◌, length, take}
use Rattle.archive_journal.specs.Body.{joined}
use Rattle.archive_journal.proofs.body.joined_len.Given as goal

abbrev pub invariant-loop-record : goal.invariant-loop-record
invariant-loop-record l = l.len ≡ length (joined (take l.record-index l.records))
