use Rattle.session_core.specs.Knowing.{knows}
use Rattle.server_loop.proofs.Going.{one_served}
use Rattle.server_loop.proofs.working.serve_next.Goals as goal

pub returns-in-Ok : goal.returns-in-Ok
returns-in-Ok g c =
    let a = c.in-Ok.ensures in
    let s = c.serve_link-served.ensures in
    record { next = one_served g.D.L.Link.state g.D.L.Link.follows (knows c.args.known.now) g.A.Admit.leaves g.A.Admit.mark g.A.Admit.calls _ _ _ _ _ _ _ _ _ _ a.gives a.unused a.cause.passed s.served s.cause s.follows c.done.ensures.back }
