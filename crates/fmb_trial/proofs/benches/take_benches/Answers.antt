use Rattle.std.proofs.Common.{suc, [], length, Result, Ok, Err, OnErr, ap}
use Rattle.fmb_trial.proofs.BenchLemmas.{passes_lent, spent_lent, spent_none}
use Rattle.fmb_trial.proofs.benches.take_benches.Goals as goal

on_err : {A E P : Type 0} (r : Result A E) → P → OnErr r P
on_err (Ok x) holds = tt
on_err (Err e) holds = holds

pub returns-in_err-server-clause-no_memory : goal.returns-in_err-server-clause-no_memory
returns-in_err-server-clause-no_memory g c = on_err c.from_residual.result (spent_none _ _ (ap (λ h. h.benches) c.in_err-server.ensures.no_memory))

pub returns-in_err-push-clause-no_memory : goal.returns-in_err-push-clause-no_memory
returns-in_err-push-clause-no_memory g c =
    on_err c.from_residual-in_err-push.result (spent_lent (suc (suc (length c.devices.benches.items))) (g.H.Host.view c.args.host.now) (g.H.Host.view c.bench-in-devices.new.self)
    (passes_lent (suc (length c.devices.benches.items)) [] (g.H.Host.view c.args.host.now).benches (g.H.Host.view c.devices.host).benches (g.H.Host.view c.bench-in-devices.new.self).benches
    c.devices.invariant.taken c.in_ok-bench.ensures.handed.benches))
