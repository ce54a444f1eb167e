-- Each exit leaves what the calls before it left.
use Rattle.archive_journal.proofs.Appends.{every-same}
use Rattle.archive_journal.proofs.Ends.{empty_failed, empty_written, empty_done, empty_images}
use Rattle.archive_journal.proofs.write.write_empty.Goals as goal

pub returns-in_err-write-clause-images : goal.returns-in_err-write-clause-images
returns-in_err-write-clause-images g c = empty_failed _ _ c.requires.small c.in_err-write.ensures.torn

pub returns-in_err-sync-clause-images : goal.returns-in_err-sync-clause-images
returns-in_err-sync-clause-images g c = every-same _ _ _ c.in_err-sync.ensures.unchanged (empty_written _ _ c.requires.small c.in_ok-write.ensures.written)

pub returns-clause-closed : goal.returns-clause-closed
returns-clause-closed g c = empty_done _ _ _ c.requires.small c.in_ok-write.ensures.written c.in_ok-sync.ensures.durable

pub returns-clause-images : goal.returns-clause-images
returns-clause-images g c = empty_images _ (empty_done _ _ _ c.requires.small c.in_ok-write.ensures.written c.in_ok-sync.ensures.durable)
