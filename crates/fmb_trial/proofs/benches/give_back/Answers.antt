use Rattle.std.proofs.Common.{◌<◌, ◌∷◌, [], ◌++◌, length, map, sym, ap, subst, ◌∙◌, arith, append_assoc, length-append}
use Rattle.std.proofs.lemmas.List.{length-map, map-append}
use Rattle.std.specs.Vec.Iter.{into_iter_items}
use Rattle.fmb_trial.specs.Benches.{PassesNew}
use Rattle.fmb_trial.proofs.BenchLemmas.{benches_then, passes_back}
use Rattle.fmb_trial.proofs.benches.give_back.Goals as goal

pub loop-bench-init : goal.loop-bench-init
loop-bench-init g c = record {
  left = c.into_iter-bench-iterator.ensures.into_iter_gives.0;
  back = λ given start few first.
      passes_back given [] _ start.benches (g.H.Host.view c.args.host.now).benches (g.H.Host.view c.bench_back.new.self).benches first (omega (arith, few)) c.bench_back.ensures.benches;
  others = c.bench_back.ensures.others;
}

pub loop-bench-preserved : goal.loop-bench-preserved
loop-bench-preserved g c =
    let inv = c.loop-bench.invariant in
    let cut = ap (λ l. c.loop-bench.yielded ++ l) (sym c.in-Some.ensures.steps.0) ∙ inv.left in
    let back = map g.H.Rig.Medium.state c.loop-bench.yielded in
    let server = g.H.Rig.Medium.state c.args.benches.server in
    let after = g.H.Host.view c.bench_back-in-loop-bench.new.self in
    let long : length c.loop-bench.yielded < length c.args.benches.devices.items =
    omega (arith, ap (λ l. length l) cut, length-append c.loop-bench.yielded (c.in-Some.bench ∷ into_iter_items c.next.new.self)) in
    record {
      left = append_assoc c.loop-bench.yielded (c.in-Some.bench ∷ []) _ ∙ cut;
      back = λ given start few first. subst (λ l. PassesNew given (server ∷ l) start.benches after.benches) (sym (map-append g.H.Rig.Medium.state c.loop-bench.yielded (c.in-Some.bench ∷ [])))
          (passes_back given (server ∷ back) (g.H.Rig.Medium.state c.in-Some.bench) start.benches (g.H.Host.view c.loop-bench.host).benches after.benches (inv.back given start few first)
          (omega (arith, few, long, length-map c.loop-bench.yielded g.H.Rig.Medium.state)) c.bench_back-in-loop-bench.ensures.benches);
      others = benches_then (g.H.Host.view c.args.host.now) (g.H.Host.view c.loop-bench.host) after inv.others c.bench_back-in-loop-bench.ensures.others;
    }
