use Rattle.std.proofs.Common.{take}
use Rattle.trial_wire.proofs.Passing.{gives-passes}
use Rattle.trial_wire.proofs.wire.pass.Goals as goal

pub returns : goal.returns
returns g c = gives-passes c.args.known.now c.args.up.now c.args.given c.args.to c.give-n.result.0 c.give-n.new.session c.args.shelf.now c.give-n.new.shelf c.args.down.now c.give-n.new.down c.give-n.result.1
    c.requires.order c.requires.size c.give-n.ensures.took c.give-n.ensures.all (c.give-n.ensures.gives (take c.args.given c.args.up.now) c.requires.going)
