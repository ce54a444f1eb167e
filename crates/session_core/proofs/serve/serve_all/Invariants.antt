use Rattle.std.proofs.Common.{length, ◌-◌, ◌≡◌, ◌≤◌, ℕ, ◌*◌, ◌^◌, List}
use Rattle.session_core.specs.Doings.{Goes}
use Rattle.session_core.specs.Knowing.{knows}
use Rattle.session_core.specs.Sessions.{IsReady, talk_of}
use Rattle.session_core.specs.Works.{meaning, doing}
use Rattle.session_core.proofs.serve.serve_all.Given as goal

abbrev pub invariant-loop-taken : goal.invariant-loop-taken
invariant-loop-taken g l = (bytes : List ℕ) × record {
  size : length bytes ≡ l.taken;
  ready : IsReady l.session;
  goes : Goes g.A.Admit.leaves (meaning g.O.Orders.gives g.O.Orders.asked g.O.Orders.told) (knows l.known) bytes bytes l.fn.session.reader l.session.reader
      (doing (talk_of l.fn.session l.fn.orders) l.fn.shelf (g.L.Link.state l.fn.link) l.fn.tally) (doing (talk_of l.session l.orders) l.shelf (g.L.Link.state l.link) l.tally);
  few : l.taken ≤ 2 ^ 30;
  frames : l.tally.frames ≤ l.taken;
  records : l.tally.records ≤ 255 * l.taken;
  later : (g.L.Link.state l.fn.link).faults ≤ (g.L.Link.state l.link).faults;
  follows : g.L.Link.follows l.fn.link l.link;
  buffer : length l.buffer ≡ 4096;
}

abbrev pub decreases-loop-taken : goal.decreases-loop-taken
decreases-loop-taken g l = 2 ^ 30 - l.taken
