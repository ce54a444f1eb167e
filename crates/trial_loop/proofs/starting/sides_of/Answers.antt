use Rattle.std.proofs.Common.{◌≡◌, ◌<◌, ℕ, List, ◌∷◌, [], ◌++◌, length, length-append, take, get_or, Some, sym, ap, subst, ◌∙◌, append_assoc, arith}
use Rattle.std.specs.List.{AllZip}
use Rattle.std.specs.Vec.Iter.{into_iter_items}
use Rattle.std.proofs.lemmas.Option.{slice_get-get_or}
use Rattle.trial_device.specs.Sides.{Side}
use Rattle.trial_device.specs.Starting.{StartsSide}
use Rattle.trial_model.specs.Script.{Device}
use Rattle.trial_loop.specs.Starts.{IsNewBench}
use Rattle.trial_loop.proofs.StartLemmas.{in-middle, next-side, one-more}
use Rattle.trial_loop.proofs.starting.sides_of.Goals as goal

pub side_of-requires-clause-some : goal.side_of-requires-clause-some
side_of-requires-clause-some g c =
    let cut = ap (λ l. c.loop-bench.yielded ++ l) (sym c.in-Some.ensures.steps.0) ∙ c.loop-bench.invariant.left in
    let below : c.len.result < length c.args.devices.now =
    omega (arith, one-more _ _ _ _ cut, c.loop-bench.invariant.count, c.requires.count, c.len.ensures, c.loop-bench.sides.ok.0) in
    (c.requires.slots c.len.result c.index-devices-len.result (slice_get-get_or c.args.devices.now c.len.result c.index-devices-len.result below ∙ ap Some (sym c.index-devices-len.is))).0

pub side_of-requires-clause-few : goal.side_of-requires-clause-few
side_of-requires-clause-few g c =
    let cut = ap (λ l. c.loop-bench.yielded ++ l) (sym c.in-Some.ensures.steps.0) ∙ c.loop-bench.invariant.left in
    let below : c.len.result < length c.args.devices.now =
    omega (arith, one-more _ _ _ _ cut, c.loop-bench.invariant.count, c.requires.count, c.len.ensures, c.loop-bench.sides.ok.0) in
    (c.requires.slots c.len.result c.index-devices-len.result (slice_get-get_or c.args.devices.now c.len.result c.index-devices-len.result below ∙ ap Some (sym c.index-devices-len.is))).1

pub side_of-requires-clause-settings : goal.side_of-requires-clause-settings
side_of-requires-clause-settings g c =
    let cut = ap (λ l. c.loop-bench.yielded ++ l) (sym c.in-Some.ensures.steps.0) ∙ c.loop-bench.invariant.left in
    let below : c.len.result < length c.args.devices.now =
    omega (arith, one-more _ _ _ _ cut, c.loop-bench.invariant.count, c.requires.count, c.len.ensures, c.loop-bench.sides.ok.0) in
    c.requires.settings c.len.result c.index-devices-len.result (slice_get-get_or c.args.devices.now c.len.result c.index-devices-len.result below ∙ ap Some (sym c.index-devices-len.is))

pub side_of-requires-clause-bench : goal.side_of-requires-clause-bench
side_of-requires-clause-bench g c =
    let cut = ap (λ l. c.loop-bench.yielded ++ l) (sym c.in-Some.ensures.steps.0) ∙ c.loop-bench.invariant.left in
    in-middle (λ b. IsNewBench (g.B.Medium.state b)) c.loop-bench.yielded c.in-Some.bench (into_iter_items c.next.new.self) c.args.benches.items cut c.requires.benches

pub loop-bench-preserved : goal.loop-bench-preserved
loop-bench-preserved g c =
    let inv = c.loop-bench.invariant in
    let cut = ap (λ l. c.loop-bench.yielded ++ l) (sym c.in-Some.ensures.steps.0) ∙ inv.left in
    let sides : List Side = c.loop-bench.sides.items in
    let device : Device = c.index-devices-len.result in
    let side : Side = c.in_ok-side_of.field-0 in
    let long : c.len.result ≡ length sides = omega (arith, c.len.ensures, c.loop-bench.sides.ok.0) in
    let below : length sides < length c.args.devices.now = omega (arith, one-more _ _ _ _ cut, inv.count, c.requires.count) in
    let here : device ≡ get_or c.args.devices.now (length sides) device = c.index-devices-len.is ∙ ap (λ (n : ℕ). get_or c.args.devices.now n device) long in
    let more : c.push.new.self.items ≡ sides ++ side ∷ [] = c.in_ok-push.ensures.items in
    record {
      left = append_assoc c.loop-bench.yielded (c.in-Some.bench ∷ []) _ ∙ cut;
      count = omega (arith, ap (λ (l : List Side). length l) more, length-append sides (side ∷ []), length-append c.loop-bench.yielded (c.in-Some.bench ∷ []), inv.count);
      sides = subst (λ (l : List Side). AllZip StartsSide (take (length l) c.args.devices.now) l) (sym more) (next-side StartsSide c.args.devices.now sides device side inv.sides below here c.in_ok-side_of.ensures);
    }
