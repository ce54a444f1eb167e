use Rattle.std.proofs.Common.{◌≡◌, subst, sym}
use Rattle.trial_wire.specs.WireLinks.{WireState}
use Rattle.trial_talks.specs.Rounds.{RoundsOver}
use Rattle.trial_talks.proofs.Rounds.{empty-ring-of}
use Rattle.trial_talks.proofs.connecting.carry.Goals as goal

pub returns-clause-over : goal.returns-clause-over
returns-clause-over g c =
    let e = c.into_parts-wire.ensures in
    let r = c.round-result.ensures in
    let same : (let w : WireState = record {
      known = c.into_parts-wire.result.known;
      limit = c.args.wire.limit;
      most = c.args.wire.most;
      up = c.into_parts-wire.result.up;
      given = c.into_parts-wire.result.given;
      down = c.into_parts-wire.result.down;
      heard = c.into_parts-wire.result.heard;
      shelf = c.into_parts-wire.result.shelf;
      session = c.into_parts-wire.result.session;
      ended = c.into_parts-wire.result.ended;
      faults = c.into_parts-wire.result.faults;
    } in w) ≡ c.round-result.new.link = λ i. record {
      known = e.known i;
      limit = sym r.follows.limit i;
      most = sym r.follows.most i;
      up = e.up i;
      given = e.given i;
      down = e.down i;
      heard = e.heard i;
      shelf = e.shelf i;
      session = e.session i;
      ended = e.ended i;
      faults = e.faults i;
    } in
    subst (λ (w : WireState). RoundsOver c.args.side.now.device.imei c.args.most c.round-result.result c.args.side.now.ring c.round-result.new.self.ring c.args.wire w) (sym same)
    (record {
      follows = r.follows;
      talks = r.talks;
      empty = λ is. ((r.nothing is).0, empty-ring-of c.round-result.result c.args.side.now.ring c.round-result.new.self.ring is r.round);
      broken = r.broken;
    })
