use Rattle.std.proofs.Common.{subst}
use Rattle.medium_model.specs.PowerLoss.{EveryImage}
use Rattle.archive_journal.specs.Journal.{KeepsEntries}
use Rattle.archive_journal.proofs.Journals.{keeps-restarted}
use Rattle.shelf.specs.Shelf.{ShelfView}
use Rattle.shelf.proofs.shelf.Shelf.restart.Goals as goal

pub returns-then-self-clause-keeps : goal.returns-then-self-clause-keeps
returns-then-self-clause-keeps g c =
    let P : ShelfView → Type 0 = λ v. EveryImage c.read_again.new.self.medium.content (KeepsEntries v.medium.content) in
    subst P c.self.view_is (keeps-restarted _ _ _ c.restart.ensures.image c.read_again.ensures.keeps)
