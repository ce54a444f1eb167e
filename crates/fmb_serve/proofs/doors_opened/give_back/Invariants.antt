use Rattle.std.proofs.Common.{◌≡◌, ◌++◌, map}
use Rattle.std.specs.Vec.Iter.{into_iter_items}
use Rattle.fmb_serve.specs.Doors.{TakesBackDoors}
use Rattle.fmb_serve.proofs.doors_opened.give_back.Given as goal

abbrev pub invariant-loop-door : goal.invariant-loop-door
invariant-loop-door g l = record {
  left : l.yielded ++ into_iter_items l.door-iterator ≡ l.fn.doors.items;
  back : TakesBackDoors g.H.Gate.L.Link.state (g.H.Host.view l.fn.host) (map g.H.Gate.Door.state l.yielded) (g.H.Host.view l.host);
}
