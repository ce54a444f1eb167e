use Rattle.archive_journal.proofs.Appends.{every-same}
use Rattle.archive_journal.proofs.Ends.{small-images, empty-read}
use Rattle.archive_journal.proofs.open.start_anew.Goals as goal

pub returns-in_err-make_ready-clause-images : goal.returns-in_err-make_ready-clause-images
returns-in_err-make_ready-clause-images g c = every-same _ _ _ c.in_err-make_ready.ensures.content (small-images _ c.requires.small)

pub returns-clause-read : goal.returns-clause-read
returns-clause-read g c = empty-read _ _ c.in_ok-write_empty.ensures.closed c.new.ensures
