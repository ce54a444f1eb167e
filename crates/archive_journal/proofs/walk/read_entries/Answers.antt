-- One entry more.
use Rattle.std.proofs.Common.{rules}
use Rattle.archive_journal.proofs.Walks.{stand-read}
use Rattle.archive_journal.proofs.walk.read_entries.Goals as goal

pub entries-preserved : goal.entries-preserved
entries-preserved c =
    stand-read c.entries.entries _ c.in-Some.entry c.entries.gate c.in-Some.size c.args.file.now c.entries.invariant (rw c.in-Some.is at c.in_ok-entry.ensures.counts)
    (rw c.in-Some.is at c.in_ok-entry.ensures.entry) (rw c.in-Some.is at c.in_ok-entry.ensures.size) c.in_ok-push-in-Some.ensures.ok

pub overflow_add-gate : goal.overflow_add-gate
overflow_add-gate c =
    let more = stand-read c.entries.entries _ c.in-Some.entry c.entries.gate c.in-Some.size c.args.file.now c.entries.invariant (rw c.in-Some.is at c.in_ok-entry.ensures.counts)
    (rw c.in-Some.is at c.in_ok-entry.ensures.entry) (rw c.in-Some.is at c.in_ok-entry.ensures.size) c.in_ok-push-in-Some.ensures.ok in
    let there = more.there in
    search rules
