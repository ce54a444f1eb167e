use Rattle.fmb_host.specs.Host.{AreSmall}
use Rattle.serve_rows.proofs.rows.host.Given as goal

abbrev pub invariant-loop-streams : goal.invariant-loop-streams
invariant-loop-streams l = AreSmall l.host.counts
