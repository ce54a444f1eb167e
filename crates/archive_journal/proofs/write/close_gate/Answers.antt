-- Each exit leaves what the calls before it left.
use Rattle.archive_journal.proofs.Appends.{every-same, durable-as}
use Rattle.archive_journal.proofs.Ends.{close_failed, close_written, close_done}
use Rattle.archive_journal.proofs.write.close_gate.Goals as goal

pub returns-in_err-write-clause-images : goal.returns-in_err-write-clause-images
returns-in_err-write-clause-images g c = close_failed _ _ _ _ c.requires.open_gate c.in_err-write.ensures.torn

pub returns-in_err-sync-clause-images : goal.returns-in_err-sync-clause-images
returns-in_err-sync-clause-images g c = every-same _ _ _ c.in_err-sync.ensures.unchanged (close_written _ _ _ _ c.requires.open_gate c.in_ok-write.ensures.written)

pub returns-clause-same : goal.returns-clause-same
returns-clause-same g c = (close_done _ _ _ _ _ c.requires.open_gate c.in_ok-write.ensures.written c.in_ok-sync.ensures.durable).0

pub returns-clause-closed : goal.returns-clause-closed
returns-clause-closed g c = (close_done _ _ _ _ _ c.requires.open_gate c.in_ok-write.ensures.written c.in_ok-sync.ensures.durable).1

pub returns-clause-images : goal.returns-clause-images
returns-clause-images g c =
    let done = close_done _ _ _ _ _ c.requires.open_gate c.in_ok-write.ensures.written c.in_ok-sync.ensures.durable in
    durable-as _ _ _ _ done.0 done.1
