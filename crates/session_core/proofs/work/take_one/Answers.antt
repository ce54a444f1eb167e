use Rattle.std.proofs.Common.{sym, ap, subst, ◌∙◌}
use Rattle.session_core.specs.Works.{meaning}
use Rattle.session_core.specs.Knowing.{knows}
use Rattle.session_core.specs.Sessions.{Heard}
use Rattle.command_layout.specs.Answers.{value_in}
use Rattle.command_layout.specs.declared.way.Way.TheVariants.{Up}
use Rattle.session_core.specs.Talks.{told_by}
use Rattle.session_core.proofs.Taking.{more_took, broken_took, login_took, packet_took, response_took, packet_has_imei, response_has_imei}
use Rattle.session_core.proofs.work.take_one.Goals as goal

pub unreachable-requires : goal.unreachable-requires
unreachable-requires g c =
    let h = subst (Heard c.args.session.now c.hear-n.new.self c.args.rest.now c.hear-n.result.0) c.in-Packet.is c.hear-n.ensures in
    packet_has_imei c.args.session.now c.hear-n.new.self c.args.rest.now c.hear-n.result.0 h (sym c.imei.ensures ∙ c.in-None.is)

pub unreachable-requires-in-None-imei : goal.unreachable-requires-in-None-imei
unreachable-requires-in-None-imei g c =
    let h = subst (Heard c.args.session.now c.hear-n.new.self c.args.rest.now c.hear-n.result.0) c.in-Response.is c.hear-n.ensures in
    response_has_imei c.args.session.now c.hear-n.new.self c.args.rest.now c.hear-n.result.0 h (sym c.imei-in-Response.ensures ∙ c.in-None-imei.is)

pub returns-in-More-clause-did : goal.returns-in-More-clause-did
returns-in-More-clause-did g c =
    let h = subst (Heard c.args.session.now c.hear-n.new.self c.args.rest.now c.hear-n.result.0) c.in-More.is c.hear-n.ensures in
    more_took g.A.Admit.leaves (meaning g.O.Orders.gives g.O.Orders.asked g.O.Orders.told) (knows c.args.known.now) c.args.rest.now c.hear-n.result.0 c.args.session.now c.hear-n.new.self c.args.orders.now c.args.shelf.now (g.L.Link.state c.args.link.now).told c.args.tally.now.frames c.args.tally.now.records c.requires.ready h

pub returns-in-Broken-clause-did : goal.returns-in-Broken-clause-did
returns-in-Broken-clause-did g c =
    let h = subst (Heard c.args.session.now c.hear-n.new.self c.args.rest.now c.hear-n.result.0) c.in-Broken.is c.hear-n.ensures in
    broken_took g.A.Admit.leaves (meaning g.O.Orders.gives g.O.Orders.asked g.O.Orders.told) (knows c.args.known.now) c.in-Broken.found c.args.rest.now c.hear-n.result.0 c.args.session.now c.hear-n.new.self c.args.orders.now c.args.shelf.now (g.L.Link.state c.args.link.now).told c.args.tally.now.frames c.args.tally.now.records c.requires.ready h

pub returns-in-Login-clause-did : goal.returns-in-Login-clause-did
returns-in-Login-clause-did g c =
    let h = subst (Heard c.args.session.now c.hear-n.new.self c.args.rest.now c.hear-n.result.0) c.in-Login.is c.hear-n.ensures in
    login_took g.A.Admit.leaves (meaning g.O.Orders.gives g.O.Orders.asked g.O.Orders.told) (knows c.args.known.now) c.in-Login.imei c.args.rest.now c.hear-n.result.0 c.args.session.now c.hear-n.new.self c.greet.new.session c.args.orders.now c.greet.new.orders c.args.shelf.now (g.L.Link.state c.args.link.now).told (g.L.Link.state c.greet.new.link).told
    c.args.tally.now.frames c.args.tally.now.records c.greet.result c.requires.ready h c.greet.ensures.session c.greet.ensures.greets

pub returns-in-Some-clause-did : goal.returns-in-Some-clause-did
returns-in-Some-clause-did g c =
    let h = subst (Heard c.args.session.now c.hear-n.new.self c.args.rest.now c.hear-n.result.0) c.in-Packet.is c.hear-n.ensures in
    packet_took g.A.Admit.leaves (meaning g.O.Orders.gives g.O.Orders.asked g.O.Orders.told) (knows c.args.known.now) c.in-Some.imei c.args.rest.now c.hear-n.result.0 c.args.session.now c.hear-n.new.self c.store.new.session c.args.orders.now c.store.new.orders c.args.shelf.now c.store.new.shelf (g.L.Link.state c.args.link.now).told (g.L.Link.state c.store.new.link).told
    c.args.tally.now.frames c.args.tally.now.records c.store.new.tally.frames c.store.new.tally.records c.store.result c.requires.ready h (sym c.imei.ensures ∙ c.in-Some.is) c.store.ensures.same c.store.ensures.session
    (c.store.ensures.done (knows c.args.known.now) h.says.head) (c.store.ensures.stopped (knows c.args.known.now) h.says.head)

pub returns-in-Some-imei-clause-did : goal.returns-in-Some-imei-clause-did
returns-in-Some-imei-clause-did g c =
    let h = subst (Heard c.args.session.now c.hear-n.new.self c.args.rest.now c.hear-n.result.0) c.in-Response.is c.hear-n.ensures in
    response_took g.A.Admit.leaves (meaning g.O.Orders.gives g.O.Orders.asked g.O.Orders.told) (knows c.args.known.now) c.in-Some-imei.imei c.args.rest.now c.hear-n.result.0 c.args.session.now c.hear-n.new.self c.args.orders.now c.tell.new.orders c.args.shelf.now (g.L.Link.state c.args.link.now).told c.args.tally.now.frames c.args.tally.now.records c.requires.ready h
    (sym c.imei-in-Response.ensures ∙ c.in-Some-imei.is)
    (c.tell.ensures ∙ ap (λ b. told_by (meaning g.O.Orders.gives g.O.Orders.asked g.O.Orders.told) c.args.orders.now c.in-Some-imei.imei (value_in Up b)) c.body.ensures)
