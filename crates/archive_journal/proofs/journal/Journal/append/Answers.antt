use Rattle.std.proofs.Common.{◌∙◌, ap, sym, subst}
use Rattle.medium_model.specs.State.{IfTold}
use Rattle.archive_journal.specs.Journal.{JournalView}
use Rattle.archive_journal.specs.Places.{IsClosed}
use Rattle.archive_journal.specs.declared.write.Tail.{Tail}
use Rattle.archive_journal.proofs.Journals.{durable_closed}
use Rattle.archive_journal.proofs.journal.Journal.append.Goals as goal

pub returns-in-Ok-clause-durable : goal.returns-in-Ok-clause-durable
returns-in-Ok-clause-durable g c =
    let P : Tail → Type 0 = λ t. IfTold (g.M.Medium.state c.write_entry.new.medium).content (IsClosed t.gate t.bodies) in
    durable_closed _ (ap (λ (v : JournalView). v.down) c.self.view_is ∙ c.requires.up) (subst P (sym c.in-Ok.ensures.tail) c.in-Ok.ensures.closed)
