use Rattle.std.proofs.Common.{refl, rules}
use Rattle.archive_journal.proofs.Journals.{durable_closed, closed-archives}
use Rattle.archive_journal.proofs.journal.Journal.open.Goals as goal

pub returns-in-Ok-clause-durable : goal.returns-in-Ok-clause-durable
returns-in-Ok-clause-durable g c = durable_closed _ refl c.in-Ok.ensures.closed

pub invariant_of-journal : goal.invariant_of-journal
invariant_of-journal g c = record {
  bodies = search rules;
  gate = search rules;
  reserved = search rules;
  most = search rules;
  up = λ _. c.in-Ok.ensures.closed;
  archives = closed-archives _ _ _ c.in-Ok.ensures.closed;
}
