use Rattle.std.proofs.Common.{◌≡◌, false, map, sym, arith}
use Rattle.std.proofs.lemmas.List.{nil_from_length}
use Rattle.std.proofs.lemmas.List.Elements.{All-head, All-rest, All-same}
use Rattle.std.specs.Vec.Iter.{into_iter_items}
use Rattle.trial_device.specs.Sides.{Side}
use Rattle.trial_play.specs.Outcomes.{device_outcome}
use Rattle.trial_loop.proofs.Finishing.{first-rest, last-rest, map-more, map-none, more-devices, next-rest, no-connections}
use Rattle.trial_loop.proofs.outcome.device_outcomes.Goals as goal

pub loop-side-init : goal.loop-side-init
loop-side-init g c =
    let left = into_iter_items c.into_iter-side-iterator.result in
    let gives = c.into_iter-side-iterator.ensures.into_iter_gives.0 in
    record {
      up = All-same (λ (d : Side). d.ring.down ≡ false) left c.args.sides.items gives c.requires;
      devices = first-rest (device_outcome c.args.shelf.now) c.new-outcome.result.devices left c.args.sides.items c.new-outcome.ensures.devices gives;
      connections = c.new-outcome.ensures.connections;
      benches = first-rest (λ (d : Side). d.ring.medium) (map g.B.Medium.state c.new-benches.result.items) left c.args.sides.items (map-none g.B.Medium.state c.new-benches.result.items c.new-benches.ensures.items) gives;
    }

pub device_outcome-requires : goal.device_outcome-requires
device_outcome-requires g c =
    All-head (λ (d : Side). d.ring.down ≡ false) c.in-Some.side (into_iter_items c.next.new.self)
    (All-same (λ (d : Side). d.ring.down ≡ false) _ (into_iter_items c.loop-side.side-iterator) (sym c.in-Some.ensures.steps.0) c.loop-side.invariant.up)

pub loop-side-preserved : goal.loop-side-preserved
loop-side-preserved g c =
    let inv = c.loop-side.invariant in
    let before = into_iter_items c.loop-side.side-iterator in
    let after = into_iter_items c.next.new.self in
    let cut = c.in-Some.ensures.steps.0 in
    record {
      up = All-rest (λ (d : Side). d.ring.down ≡ false) c.in-Some.side after before cut inv.up;
      devices =
          next-rest (device_outcome c.args.shelf.now) c.loop-side.outcome.devices c.push_device.new.self.devices c.in-Some.side c.in_ok-device.device before after c.args.sides.items
          (more-devices c.loop-side.outcome c.push_device.new.self c.in_ok-device.device c.in_ok-push_device.ensures.ok) c.in_ok-device.ensures.outcome cut inv.devices;
      connections = no-connections c.loop-side.outcome c.push_device.new.self c.in_ok-device.device c.in_ok-push_device.ensures.ok inv.connections;
      benches =
          next-rest (λ (d : Side). d.ring.medium) (map g.B.Medium.state c.loop-side.benches.items) (map g.B.Medium.state c.push.new.self.items) c.in-Some.side (g.B.Medium.state c.in_ok-device.bench) before after c.args.sides.items
          (map-more g.B.Medium.state c.loop-side.benches.items c.push.new.self.items c.in_ok-device.bench c.in_ok-push.ensures.items) c.in_ok-device.ensures.bench cut inv.benches;
    }

pub returns-clause-outcome : goal.returns-clause-outcome
returns-clause-outcome g c =
    let devices = last-rest (device_outcome c.args.shelf.now) c.loop-side.outcome.devices (into_iter_items c.loop-side.side-iterator) c.args.sides.items
    (nil_from_length (into_iter_items c.loop-side.side-iterator) (omega (arith, c.in-None.ensures.steps.0, c.loop-side.side-iterator.rest.ok.0))) c.loop-side.invariant.devices in
    λ i. record { devices = devices i; connections = c.loop-side.invariant.connections i }

pub returns-clause-benches : goal.returns-clause-benches
returns-clause-benches g c =
    last-rest (λ (d : Side). d.ring.medium) (map g.B.Medium.state c.loop-side.benches.items) (into_iter_items c.loop-side.side-iterator) c.args.sides.items
    (nil_from_length (into_iter_items c.loop-side.side-iterator) (omega (arith, c.in-None.ensures.steps.0, c.loop-side.side-iterator.rest.ok.0))) c.loop-side.invariant.benches
