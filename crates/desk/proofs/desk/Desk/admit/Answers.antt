use Rattle.desk.proofs.Turns.{entered, given-back, extends-after, down-after}
use Rattle.desk.proofs.desk.Desk.admit.Goals as goal

pub publish-requires-clause-shelf : goal.publish-requires-clause-shelf
publish-requires-clause-shelf g c = given-back _ _ _ _ _ _ _ _ _ _ c.args.self.now.up c.requires.seat.opening_is c.args.seat.now.alone
    c.wait_turn.ensures.turn c.take-shelf.ensures.shelf c.take-shelf.ensures.empty c.admit-result.ensures.leaves c.give_back.ensures.back

pub publish-requires-clause-legal : goal.publish-requires-clause-legal
publish-requires-clause-legal g c = (entered _ _ _ _ _ _ _ _ _ _ c.args.self.now.up c.requires.seat.opening_is c.args.seat.now.alone
    c.wait_turn.ensures.turn c.take-shelf.ensures.shelf c.take-shelf.ensures.empty c.admit-result.ensures.leaves c.give_back.ensures.back).legal

pub returns-clause-history : goal.returns-clause-history
returns-clause-history g c = extends-after _ _ _ _ _ _ _ _ _ _ c.args.self.now.up c.requires.seat.opening_is c.args.seat.now.alone
    c.wait_turn.ensures.turn c.take-shelf.ensures.shelf c.take-shelf.ensures.empty c.admit-result.ensures.leaves c.give_back.ensures.back _ c.publish.ensures.published

pub returns-clause-down : goal.returns-clause-down
returns-clause-down g c = down-after _ _ _ _ _ _ _ _ _ _ c.args.self.now.up c.requires.seat.opening_is c.args.seat.now.alone
    c.wait_turn.ensures.turn c.take-shelf.ensures.shelf c.take-shelf.ensures.empty c.admit-result.ensures.leaves c.give_back.ensures.back _ c.publish.ensures.published

pub returns-clause-fault : goal.returns-clause-fault
returns-clause-fault g c = (entered _ _ _ _ _ _ _ _ _ _ c.args.self.now.up c.requires.seat.opening_is c.args.seat.now.alone
    c.wait_turn.ensures.turn c.take-shelf.ensures.shelf c.take-shelf.ensures.empty c.admit-result.ensures.leaves c.give_back.ensures.back).fault
