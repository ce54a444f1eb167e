use Rattle.std.proofs.Common.{◌≡◌, ◌++◌, length, take}
use Rattle.std.specs.List.{AllZip}
use Rattle.std.specs.Vec.Iter.{into_iter_items}
use Rattle.trial_device.specs.Starting.{StartsSide}
use Rattle.trial_loop.proofs.starting.sides_of.Given as goal

abbrev pub invariant-loop-bench : goal.invariant-loop-bench
invariant-loop-bench g l = record {
  left : l.yielded ++ into_iter_items l.bench-iterator ≡ l.fn.benches.items;
  count : length l.sides.items ≡ length l.yielded;
  sides : AllZip StartsSide (take (length l.sides.items) l.devices) l.sides.items;
}
