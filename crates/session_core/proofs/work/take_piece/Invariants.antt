use Rattle.std.proofs.Common.{length, ◌-◌, ◌≤◌, ◌+◌, ◌*◌, [], take}
use Rattle.session_core.specs.Doings.{Goes}
use Rattle.session_core.specs.Knowing.{knows}
use Rattle.session_core.specs.Sessions.{IsReady, talk_of}
use Rattle.session_core.specs.Works.{meaning, doing}
use Rattle.session_core.proofs.work.take_piece.Given as goal

abbrev pub invariant-loop-at : goal.invariant-loop-at
invariant-loop-at g l = record {
  within : l.at ≤ length l.piece;
  ready : IsReady l.session;
  goes : Goes g.A.Admit.leaves (meaning g.O.Orders.gives g.O.Orders.asked g.O.Orders.told) (knows l.known) (take l.at l.piece) [] l.fn.session.reader l.session.reader
      (doing (talk_of l.fn.session l.fn.orders) l.fn.shelf (g.L.Link.state l.fn.link) l.fn.tally) (doing (talk_of l.session l.orders) l.shelf (g.L.Link.state l.link) l.tally);
  frames : l.tally.frames ≤ l.fn.tally.frames + l.at;
  records : l.tally.records ≤ l.fn.tally.records + 255 * l.at;
  later : (g.L.Link.state l.fn.link).faults ≤ (g.L.Link.state l.link).faults;
  follows : g.L.Link.follows l.fn.link l.link;
}

abbrev pub decreases-loop-at : goal.decreases-loop-at
decreases-loop-at g l = length l.piece - l.at
