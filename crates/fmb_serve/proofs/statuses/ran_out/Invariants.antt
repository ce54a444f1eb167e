use Rattle.std.proofs.Common.{◌≡◌, drop}
use Rattle.fmb_serve.specs.Statuses.{ran_out}
use Rattle.fmb_serve.proofs.statuses.ran_out.Given as goal

abbrev pub invariant-sessions : goal.invariant-sessions
invariant-sessions l = ran_out l.served ≡ ran_out (drop l.i l.served)
