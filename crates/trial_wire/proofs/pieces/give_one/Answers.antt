use Rattle.std.proofs.Common.{sym, subst, ◌∙◌}
use Rattle.session_core.specs.Knowing.{knows}
use Rattle.session_core.specs.Sessions.{Heard}
use Rattle.session_core.proofs.Taking.{packet_has_imei}
use Rattle.trial_wire.proofs.Giving.{broken-gives, login-gives, more-gives, packet-gives, response-gives}
use Rattle.trial_wire.proofs.pieces.give_one.Goals as goal

pub unreachable-requires : goal.unreachable-requires
unreachable-requires g c =
    let h = subst (Heard c.args.session.now c.hear-n.new.self c.args.piece.now c.hear-n.result.0) c.in-Packet.is c.hear-n.ensures in
    packet_has_imei c.args.session.now c.hear-n.new.self c.args.piece.now c.hear-n.result.0 h (sym c.imei.ensures ∙ c.in-None.is)

pub returns-in-More-clause-gives : goal.returns-in-More-clause-gives
returns-in-More-clause-gives g c = λ bytes has.
    more-gives (knows c.args.known.now) bytes c.args.piece.now c.hear-n.result.0 c.args.session.now c.hear-n.new.self has c.args.shelf.now c.args.down.now
    (subst (Heard c.args.session.now c.hear-n.new.self c.args.piece.now c.hear-n.result.0) c.in-More.is c.hear-n.ensures)

pub returns-in-Response-clause-gives : goal.returns-in-Response-clause-gives
returns-in-Response-clause-gives g c = λ bytes has.
    response-gives (knows c.args.known.now) bytes c.args.piece.now c.hear-n.result.0 c.args.session.now c.hear-n.new.self has c.args.shelf.now c.args.down.now
    (subst (Heard c.args.session.now c.hear-n.new.self c.args.piece.now c.hear-n.result.0) c.in-Response.is c.hear-n.ensures)

pub returns-in-Broken-clause-gives : goal.returns-in-Broken-clause-gives
returns-in-Broken-clause-gives g c = λ bytes has.
    broken-gives (knows c.args.known.now) bytes c.args.piece.now c.hear-n.result.0 c.args.session.now c.hear-n.new.self has c.in-Broken.found c.args.shelf.now c.args.down.now
    (subst (Heard c.args.session.now c.hear-n.new.self c.args.piece.now c.hear-n.result.0) c.in-Broken.is c.hear-n.ensures)

pub returns-in-Login-clause-gives : goal.returns-in-Login-clause-gives
returns-in-Login-clause-gives g c = λ bytes has.
    login-gives (knows c.args.known.now) bytes c.args.piece.now c.hear-n.result.0 c.args.session.now c.hear-n.new.self has c.in-Login.imei c.args.shelf.now c.args.down.now c.greet.new.down c.greet.new.session c.greet.result
    (subst (Heard c.args.session.now c.hear-n.new.self c.args.piece.now c.hear-n.result.0) c.in-Login.is c.hear-n.ensures) c.greet.ensures.session c.greet.ensures.greets

pub returns-in-Some-clause-gives : goal.returns-in-Some-clause-gives
returns-in-Some-clause-gives g c = λ bytes has.
    packet-gives (knows c.args.known.now) bytes c.args.piece.now c.hear-n.result.0 c.args.session.now c.hear-n.new.self has c.in-Some.imei c.args.shelf.now c.store.new.shelf c.args.down.now c.store.new.down c.store.new.session c.store.result
    (subst (Heard c.args.session.now c.hear-n.new.self c.args.piece.now c.hear-n.result.0) c.in-Packet.is c.hear-n.ensures) (sym c.imei.ensures ∙ c.in-Some.is) c.store.ensures.session c.store.ensures.stores
