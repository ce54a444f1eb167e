use Rattle.std.proofs.Common.{◌≡◌, drop}
use Rattle.fmb_serve.specs.Statuses.{any_ran_out}
use Rattle.fmb_serve.proofs.statuses.memory_failed.Given as goal

abbrev pub invariant-workers : goal.invariant-workers
invariant-workers l = any_ran_out l.workers ≡ any_ran_out (drop l.i l.workers)
