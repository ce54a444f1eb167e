use Rattle.std.proofs.Common.{◌≡◌, drop}
use Rattle.fmb_serve.specs.Statuses.{any_door_failed}
use Rattle.fmb_serve.proofs.statuses.door_failed.Given as goal

abbrev pub invariant-workers : goal.invariant-workers
invariant-workers l = any_door_failed l.workers ≡ any_door_failed (drop l.i l.workers)
