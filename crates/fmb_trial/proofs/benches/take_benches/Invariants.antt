use Rattle.std.proofs.Common.{◌≡◌, All, suc, [], length}
use Rattle.fmb_trial.specs.Benches.{PassesNew}
use Rattle.trial_loop.specs.Starts.{IsNewBench}
use Rattle.fmb_trial.proofs.benches.take_benches.Given as goal

abbrev pub invariant-devices : goal.invariant-devices
invariant-devices g l = record {
  new : All (λ d. IsNewBench (g.H.Rig.Medium.state d)) l.benches.items;
  count : length l.benches.items ≡ l._done;
  taken : PassesNew (suc (length l.benches.items)) [] (g.H.Host.view l.fn.host).benches (g.H.Host.view l.host).benches;
  others : g.H.Host.view l.host ≡ record (g.H.Host.view l.fn.host) { benches = (g.H.Host.view l.host).benches };
}
