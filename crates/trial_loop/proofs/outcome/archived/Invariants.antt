use Rattle.std.proofs.Common.{drop}
use Rattle.trial_loop.proofs.Archived.{IsCopying}
use Rattle.trial_loop.proofs.outcome.archived.Given as goal

abbrev pub invariant-loop-place : goal.invariant-loop-place
invariant-loop-place g l = IsCopying l.stored l.fn.imei l.list (drop l.place-index l.place-items)
