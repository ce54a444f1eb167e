use Rattle.fmb_host.specs.Host.{AreSmall}
use Rattle.drive_rows.proofs.rows.linked.Given as goal

abbrev pub invariant-loop-bytes : goal.invariant-loop-bytes
invariant-loop-bytes l = AreSmall l.host.counts
