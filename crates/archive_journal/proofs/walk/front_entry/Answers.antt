-- Each answer is that of the first entry.
use Rattle.std.proofs.Common.{arith}
use Rattle.archive_journal.proofs.Walks.{parts-entry, short-entry, closed-entry, not-entry-size, not-entry-body, length-behind, body-behind}
use Rattle.archive_journal.proofs.walk.front_entry.Goals as goal

pub returns-then-bytes-lt6-clause-none : goal.returns-then-bytes-lt6-clause-none
returns-then-bytes-lt6-clause-none c = short-entry _ (omega arith)

pub returns-then-bytes-clause-none : goal.returns-then-bytes-clause-none
returns-then-bytes-clause-none c = closed-entry _ c.if-bytes.true

pub returns-then-bytes-size-clause-none : goal.returns-then-bytes-size-clause-none
returns-then-bytes-size-clause-none c = let len = length-behind _ _ c.read_length.ensures in not-entry-size _ (omega arith)

pub returns-in-Some-clause-counts : goal.returns-in-Some-clause-counts
returns-in-Some-clause-counts c =
    let len = length-behind _ _ c.read_length.ensures in
    parts-entry _ (record { gate = c.if-bytes.false; next = omega arith; body = body-behind c.args.bytes.now _ _ len (rw c.in-Some.is at c.in_ok-entry.ensures.well_formed) })

pub returns-in-None-clause-none : goal.returns-in-None-clause-none
returns-in-None-clause-none c = not-entry-body _ (body-behind c.args.bytes.now _ _ (length-behind _ _ c.read_length.ensures) (rw c.in-None.is at c.in_ok-entry.ensures.none))
