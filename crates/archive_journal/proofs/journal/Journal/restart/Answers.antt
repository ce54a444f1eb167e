use Rattle.std.proofs.Common.{◌∙◌, ap}
use Rattle.archive_journal.specs.Journal.{JournalView, entries_told}
use Rattle.archive_journal.proofs.Journals.{durable_up, restart-archive, restart-same, restarted}
use Rattle.archive_journal.proofs.journal.Journal.restart.Goals as goal

pub invariant_of-self : goal.invariant_of-self
invariant_of-self g c = restarted _ _ c.self.invariant (g.met.M.Bench.tells _) c.restart.ensures.ready c.restart.ensures.image

pub returns-clause-archive : goal.returns-clause-archive
returns-clause-archive g c = restart-archive _ _ (g.met.M.Bench.tells c.self.inside.medium) c.restart.ensures.image c.self.invariant.archives

pub returns-clause-durable : goal.returns-clause-durable
returns-clause-durable g c up =
    durable_up _ (restarted _ _ c.self.invariant (g.met.M.Bench.tells _) c.restart.ensures.ready c.restart.ensures.image) (ap (λ (v : JournalView). v.down) c.self.view_is ∙ up)

pub returns-clause-entries : goal.returns-clause-entries
returns-clause-entries g c up =
    ap entries_told (restart-same _ _ _ _ (g.met.M.Bench.tells c.self.inside.medium) c.restart.ensures.image (c.self.invariant.up (ap (λ (v : JournalView). v.down) c.self.view_is ∙ up)))
    ∙ ap (λ (v : JournalView). entries_told v.medium.content) c.self.view_is
