use Rattle.archive_journal.proofs.Appends.{every-same}
use Rattle.archive_journal.proofs.Ends.{durable-images}
use Rattle.archive_journal.proofs.open.close_last.Goals as goal

pub returns-then-file-tail-clause-images : goal.returns-then-file-tail-clause-images
returns-then-file-tail-clause-images g c = durable-images _ _ c.requires.stand.begins c.requires.durable

pub returns-in_err-make_ready-clause-images : goal.returns-in_err-make_ready-clause-images
returns-in_err-make_ready-clause-images g c = every-same _ _ _ c.in_err-make_ready.ensures.content (durable-images _ _ c.requires.stand.begins c.requires.durable)
