use Rattle.std.proofs.Common.{◌≡◌, ◌≤◌, ◌++◌, ◌∷◌, ℕ, suc, [], length, map}
use Rattle.std.specs.Vec.Iter.{into_iter_items}
use Rattle.fmb_host.specs.Host.{HostView}
use Rattle.fmb_trial.specs.Benches.{PassesNew}
use Rattle.fmb_trial.proofs.benches.give_back.Given as goal

abbrev pub invariant-loop-bench : goal.invariant-loop-bench
invariant-loop-bench g l = record {
  left : l.yielded ++ into_iter_items l.bench-iterator ≡ l.fn.benches.devices.items;
  back : (given : ℕ) (start : HostView) → suc (length l.fn.benches.devices.items) ≤ given → PassesNew given [] start.benches (g.H.Host.view l.fn.host).benches
      → PassesNew given (g.H.Rig.Medium.state l.fn.benches.server ∷ map g.H.Rig.Medium.state l.yielded) start.benches (g.H.Host.view l.host).benches;
  others : g.H.Host.view l.host ≡ record (g.H.Host.view l.fn.host) { benches = (g.H.Host.view l.host).benches };
}
