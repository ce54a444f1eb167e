use Rattle.std.proofs.Common.{◌≡◌, false, [], ◌++◌, map}
use Rattle.std.specs.List.{All}
use Rattle.std.specs.Vec.Iter.{into_iter_items}
use Rattle.trial_device.specs.Sides.{Side}
use Rattle.trial_play.specs.Outcomes.{device_outcome}
use Rattle.trial_loop.proofs.outcome.device_outcomes.Given as goal

abbrev pub invariant-loop-side : goal.invariant-loop-side
invariant-loop-side g l = record {
  up : All (λ (d : Side). d.ring.down ≡ false) (into_iter_items l.side-iterator);
  devices : l.outcome.devices ++ map (device_outcome l.shelf) (into_iter_items l.side-iterator) ≡ map (device_outcome l.shelf) l.fn.sides.items;
  connections : l.outcome.connections ≡ [];
  benches : map g.B.Medium.state l.benches.items ++ map (λ (d : Side). d.ring.medium) (into_iter_items l.side-iterator) ≡ map (λ (d : Side). d.ring.medium) l.fn.sides.items;
}
