use Rattle.std.proofs.Common.{◌≡◌, vec_len}
use Rattle.session_core.specs.Knowing.{knows}
use Rattle.server_loop.specs.Progress.{IsOn}
use Rattle.server_loop.proofs.working.work.Given as goal

abbrev pub invariant-loop : goal.invariant-loop
invariant-loop g l = record {
  cap : l.served.cap ≡ l.fn.served.cap;
  count : vec_len l.served ≡ l.counter;
  on : IsOn g.D.L.Link.state g.D.L.Link.follows (knows l.known) g.A.Admit.leaves g.A.Admit.mark (g.D.Door.state l.fn.door) (g.D.Door.state l.door) l.fn.shelf l.shelf l.served.items;
}
