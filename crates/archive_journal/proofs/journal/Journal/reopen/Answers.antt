use Rattle.std.proofs.Common.{refl}
use Rattle.archive_journal.proofs.Journals.{durable_closed}
use Rattle.archive_journal.proofs.journal.Journal.reopen.Goals as goal

pub returns-clause-durable : goal.returns-clause-durable
returns-clause-durable g c = durable_closed _ refl c.in_ok-tail.ensures.closed
