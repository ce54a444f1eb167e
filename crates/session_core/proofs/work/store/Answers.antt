use Rattle.std.proofs.Common.{Ok, sym, ap, subst, ◌∙◌}
use Rattle.record_layout.specs.RecordsOf.{count_of}
use Rattle.session_core.specs.Works.{meaning}
use Rattle.session_core.proofs.Working.{packet_done, count_cut, order_cut, sent_whole, sent_part}
use Rattle.session_core.proofs.work.store.Goals as goal

pub admit-requires-clause-accepted : goal.admit-requires-clause-accepted
admit-requires-clause-accepted g c =
    let framed = c.requires.framed in
    (framed.0, rw c.body.ensures framed.1.is)

pub returns-then-is_err-clause-stopped : goal.returns-then-is_err-clause-stopped
returns-then-is_err-clause-stopped g c = λ known head.
    let body = c.args.session.now.reader.body in
    let left = subst (λ b. g.A.Admit.leaves c.args.shelf.now c.args.imei b (Ok c.in-Ok.receipt) c.admit.new.self) c.body.ensures c.in-Ok.ensures.leaves in
    count_cut g.A.Admit.leaves (meaning g.O.Orders.gives g.O.Orders.asked g.O.Orders.told) known head body c.args.imei c.args.orders.now c.args.orders.now c.args.shelf.now c.admit.new.self
    (g.L.Link.state c.args.link.now).told (g.L.Link.state c.send.new.link).told c.args.tally.now.frames c.args.tally.now.records c.answer_packet-count.result c.in-Ok.receipt
    left (c.in-Ok.ensures.receipt ∙ ap count_of c.body.ensures) c.answer_packet-count.ensures.answer (sent_part _ _ (sym c.if-is_err.ensures.value) c.send.ensures.part)

pub returns-in-Ok-ask-clause-done : goal.returns-in-Ok-ask-clause-done
returns-in-Ok-ask-clause-done g c = λ known head.
    let body = c.args.session.now.reader.body in
    let left = subst (λ b. g.A.Admit.leaves c.args.shelf.now c.args.imei b (Ok c.in-Ok.receipt) c.admit.new.self) c.body.ensures c.in-Ok.ensures.leaves in
    packet_done g.A.Admit.leaves (meaning g.O.Orders.gives g.O.Orders.asked g.O.Orders.told) known head body c.args.imei c.args.orders.now c.ask.new.orders c.args.shelf.now c.admit.new.self
    (g.L.Link.state c.args.link.now).told (g.L.Link.state c.send.new.link).told (g.L.Link.state c.ask.new.link).told c.args.tally.now.frames c.args.tally.now.records c.from.result c.answer_packet-count.result c.in-Ok.receipt
    c.ask.ensures.orders left (c.in-Ok.ensures.receipt ∙ ap count_of c.body.ensures) c.from.ensures c.answer_packet-count.ensures.answer
    (sent_whole _ _ (sym c.if-is_err.ensures.value) c.send.ensures.whole) c.in-Ok-ask.ensures.whole

pub returns-in-Err-clause-stopped : goal.returns-in-Err-clause-stopped
returns-in-Err-clause-stopped g c = λ known head.
    let body = c.args.session.now.reader.body in
    let left = subst (λ b. g.A.Admit.leaves c.args.shelf.now c.args.imei b (Ok c.in-Ok.receipt) c.admit.new.self) c.body.ensures c.in-Ok.ensures.leaves in
    order_cut g.A.Admit.leaves (meaning g.O.Orders.gives g.O.Orders.asked g.O.Orders.told) known head body c.args.imei c.args.orders.now c.ask.new.orders c.args.shelf.now c.admit.new.self
    (g.L.Link.state c.args.link.now).told (g.L.Link.state c.send.new.link).told (g.L.Link.state c.ask.new.link).told c.args.tally.now.frames c.args.tally.now.records c.from.result c.answer_packet-count.result c.in-Ok.receipt
    left (c.in-Ok.ensures.receipt ∙ ap count_of c.body.ensures) c.from.ensures c.answer_packet-count.ensures.answer
    (sent_whole _ _ (sym c.if-is_err.ensures.value) c.send.ensures.whole) c.in-Err.ensures.part
