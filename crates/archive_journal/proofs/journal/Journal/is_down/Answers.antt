use Rattle.std.proofs.Common.{◌≡◌, false, subst}
use Rattle.archive_journal.specs.Journal.{JournalView, IsDurable}
use Rattle.archive_journal.proofs.Journals.{durable_up}
use Rattle.archive_journal.proofs.journal.Journal.is_down.Goals as goal

pub returns-clause-durable : goal.returns-clause-durable
returns-clause-durable g c = let P : JournalView → Type 0 = λ v. v.down ≡ false → IsDurable v in subst P c.self.view_is (durable_up _ c.self.invariant)
