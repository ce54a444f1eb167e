use Rattle.std.proofs.Common.{sym}
use Rattle.archive_journal.proofs.Walks.{file-entries}
use Rattle.archive_journal.proofs.Ends.{durable-images, found, taken-read}
use Rattle.archive_journal.proofs.open.take_over.Goals as goal

pub returns-in_err-entries-clause-images : goal.returns-in_err-entries-clause-images
returns-in_err-entries-clause-images g c = durable-images _ _ c.requires.begins c.requires.durable

pub returns-clause-entries : goal.returns-clause-entries
returns-clause-entries g c = sym (file-entries _ _ _ c.in_ok-entries.ensures.stand c.in_ok-entries.ensures.last)

pub returns-clause-found : goal.returns-clause-found
returns-clause-found g c = found _ _ _ _ c.in_ok-entries.ensures.stand c.requires.few c.len.ensures

pub returns-clause-read : goal.returns-clause-read
returns-clause-read g c = taken-read _ _ c.args.file.now _ c.requires.durable (sym (file-entries _ _ _ c.in_ok-entries.ensures.stand c.in_ok-entries.ensures.last)) c.in_ok-close_last.ensures.same
