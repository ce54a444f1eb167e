use Rattle.std.proofs.Common.{arith}
use Rattle.session_core.specs.Knowing.{knows}
use Rattle.session_core.specs.Sessions.{talk_of}
use Rattle.session_core.specs.Works.{meaning, doing}
use Rattle.session_core.proofs.Going.{goes_none}
use Rattle.session_core.proofs.Piecing.{step_none, piece_goes, piece_ends}
use Rattle.session_core.proofs.work.take_piece.Goals as goal

pub loop-at-init : goal.loop-at-init
loop-at-init g c = record {
  within = omega arith;
  ready = c.requires.ready;
  goes = goes_none g.A.Admit.leaves (meaning g.O.Orders.gives g.O.Orders.asked g.O.Orders.told) (knows c.args.known.now) c.args.session.now.reader
      (doing (talk_of c.args.session.now c.args.orders.now) c.args.shelf.now (g.L.Link.state c.args.link.now) c.args.tally.now);
  frames = omega arith;
  records = omega arith;
  later = omega arith;
  follows = g.met.L.Link.follows_none c.args.link.now;
}

pub loop-at-preserved : goal.loop-at-preserved
loop-at-preserved g c =
    let m = meaning g.O.Orders.gives g.O.Orders.asked g.O.Orders.told in
    let start = doing (talk_of c.args.session.now c.args.orders.now) c.args.shelf.now (g.L.Link.state c.args.link.now) c.args.tally.now in
    let mid = doing (talk_of c.loop-at.session c.loop-at.orders) c.loop-at.shelf (g.L.Link.state c.loop-at.link) c.loop-at.tally in
    let end = doing (talk_of c.take_one-n.new.session c.take_one-n.new.orders) c.take_one-n.new.shelf (g.L.Link.state c.take_one-n.new.link) c.take_one-n.new.tally in
    let step = step_none g.A.Admit.leaves m (knows c.args.known.now) c.take_one-n.result.1 _ c.loop-at.session c.take_one-n.new.session mid end c.in-None.is c.take_one-n.ensures.did in
    let frames = c.take_one-n.ensures.few.0 in
    let records = c.take_one-n.ensures.few.1 in
    let taken = c.take_one-n.ensures.took in
    let i = c.loop-at.invariant in
    record {
      within = omega (arith, taken.1);
      ready = step.0;
      goes = piece_goes g.A.Admit.leaves m (knows c.args.known.now) c.args.piece.now c.loop-at.at c.take_one-n.result.0 c.args.session.now.reader c.loop-at.session.reader c.take_one-n.new.session.reader start mid end i.goes step.1;
      frames = omega (arith, taken.0, i.frames);
      records = omega (arith, taken.0, i.records);
      later = omega (arith, i.later, c.take_one-n.ensures.later);
      follows = g.met.L.Link.follows_then _ _ _ i.follows c.take_one-n.ensures.follows;
    }

pub returns-in-Some-clause-did : goal.returns-in-Some-clause-did
returns-in-Some-clause-did g c =
    let m = meaning g.O.Orders.gives g.O.Orders.asked g.O.Orders.told in
    let start = doing (talk_of c.args.session.now c.args.orders.now) c.args.shelf.now (g.L.Link.state c.args.link.now) c.args.tally.now in
    let mid = doing (talk_of c.loop-at.session c.loop-at.orders) c.loop-at.shelf (g.L.Link.state c.loop-at.link) c.loop-at.tally in
    let end = doing (talk_of c.take_one-n.new.session c.take_one-n.new.orders) c.take_one-n.new.shelf (g.L.Link.state c.take_one-n.new.link) c.take_one-n.new.tally in
    piece_ends g.A.Admit.leaves m (knows c.args.known.now) c.args.piece.now c.loop-at.at c.take_one-n.result.0 c.take_one-n.result.1 c.in-Some.end c.args.session.now.reader c.loop-at.session c.take_one-n.new.session start mid end
    c.loop-at.invariant.goes c.in-Some.is c.take_one-n.ensures.did
