use Rattle.std.proofs.Common.{None}
use Rattle.trial_wire.proofs.Passing.{wire-new}
use Rattle.trial_wire.proofs.wire.Wire.new.Goals as goal

pub invariant_of-result : goal.invariant_of-result
invariant_of-result g c = (
  c.requires.piece,
  wire-new _ c.args.shelf c.args.known c.args.limit c.args.most (λ i. record {
    known = c.args.known;
    limit = c.args.limit;
    most = c.args.most;
    up = c.new.ensures i;
    given = 0;
    down = c.new-2.ensures i;
    heard = 0;
    shelf = c.args.shelf;
    session = c.requires.session i;
    ended = None;
    faults = 0;
  }),
)
