use Rattle.std.proofs.Common.{◌≡◌, take}
use Rattle.fmb_run.proofs.serving.listed.Given as goal

abbrev pub invariant-imeis : goal.invariant-imeis
invariant-imeis l = l.list ≡ take l.imei-index l.imeis
