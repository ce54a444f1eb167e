use Rattle.session_core.specs.Knowing.{knows}
use Rattle.session_core.specs.Sessions.{talk_of}
use Rattle.session_core.specs.Works.{meaning, doing}
use Rattle.session_core.proofs.Ended.{from_new, served, unserved}
use Rattle.session_core.proofs.serve.serve_link.Goals as goal

pub returns-in-Err-clause-served : goal.returns-in-Err-clause-served
returns-in-Err-clause-served g c =
    unserved g.A.Admit.leaves g.A.Admit.calls g.A.Admit.mark g.met.A.Admit.tells (meaning g.O.Orders.gives g.O.Orders.asked g.O.Orders.told) (knows c.args.known.now) (g.L.Link.state c.args.link.now) c.args.orders.now c.args.shelf.now

pub returns-clause-served : goal.returns-clause-served
returns-clause-served g c =
    let m = meaning g.O.Orders.gives g.O.Orders.asked g.O.Orders.told in
    let ended = c.serve_all-end.ensures.ends in
    let end = doing (talk_of c.serve_all-end.new.session c.serve_all-end.new.orders) c.serve_all-end.new.shelf (g.L.Link.state c.serve_all-end.new.link) c.serve_all-end.new.tally in
    served g.A.Admit.leaves g.A.Admit.calls g.A.Admit.mark g.met.A.Admit.tells m (knows c.args.known.now) c.serve_all-end.result ended.0 (g.L.Link.state c.args.link.now) (g.L.Link.state c.serve_all-end.new.link)
    c.serve_all-end.new.session c.args.orders.now c.serve_all-end.new.orders c.args.shelf.now c.serve_all-end.new.shelf c.serve_all-end.new.tally.frames c.serve_all-end.new.tally.records c.imei.result c.imei.ensures ended.1
    (from_new g.A.Admit.leaves g.A.Admit.calls g.A.Admit.mark g.met.A.Admit.tells m (knows c.args.known.now) c.serve_all-end.result ended.0 (g.L.Link.state c.serve_all-end.new.link) c.in-Ok.session c.serve_all-end.new.session c.args.orders.now c.args.shelf.now (g.L.Link.state c.args.link.now).told end
    c.in-Ok.ensures ended.2)
