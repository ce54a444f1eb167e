use Rattle.std.proofs.Common.{◌≡◌, ◌<◌, ◌≤◌, ◌^◌, All, length, map, vec_capacity}
use Rattle.fmb_serve.specs.Doors.{HandsOutDoors}
use Rattle.fmb_serve.proofs.doors_opened.open_doors.Given as goal

abbrev pub invariant-workers : goal.invariant-workers
invariant-workers g l = record {
  room : l.workers ≤ vec_capacity l.doors;
  count : length l.doors.items ≡ l.worker;
  links : All (λ d. (g.H.Gate.Door.state d).link_faults < 2 ^ 63) l.doors.items;
  out : HandsOutDoors g.H.Gate.L.Link.state (g.H.Host.view l.fn.host) l.address (map g.H.Gate.Door.state l.doors.items) (g.H.Host.view l.host);
}
