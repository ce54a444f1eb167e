use Rattle.std.proofs.Common.{map, sym, ap, subst, ◌∙◌}
use Rattle.std.proofs.lemmas.List.{length-map}
use Rattle.session_core.specs.Knowing.{knows}
use Rattle.fmb_host.specs.Host.{TakesBackMedium}
use Rattle.fmb_serve.specs.Doors.{TakesBackDoors}
use Rattle.fmb_serve.proofs.Ran.{serve_wanting, served_closed}
use Rattle.fmb_serve.proofs.serving.serve_at.Goals as goal

pub returns-in-Ok : goal.returns-in-Ok
returns-in-Ok g c = λ start address archive workers ready.
    served_closed g.H.Gate.L.Link.state g.H.Gate.L.Link.follows (knows c.args.known.now) address archive workers c.args.sessions start _ _ c.args.shelf _ _ _ _ (g.H.Host.view c.args.host.now) ready c.in-Ok.ensures.closes
    (length-map _ g.H.Gate.Door.state ∙ (c.in-Ok.ensures.doors ∙ sym (length-map _ g.H.Gate.Door.state))) c.in-Ok.ensures.reports c.close.ensures

pub returns-in-Err : goal.returns-in-Err
returns-in-Err g c = λ start address archive workers ready.
    serve_wanting g.H.Gate.L.Link.state g.H.Gate.L.Link.follows (knows c.args.known.now) address archive workers c.args.sessions start _ _ c.args.shelf _ (g.H.Host.view c.args.host.now) (g.H.Host.view c.give_back.new.host) (g.H.Host.view c.medium_back.new.self) ready
    (subst (λ ds. TakesBackDoors g.H.Gate.L.Link.state (g.H.Host.view c.args.host.now) (map g.H.Gate.Door.state ds.items) (g.H.Host.view c.give_back.new.host)) c.in-Err.ensures.none_doors c.give_back.ensures)
    (subst (λ m. TakesBackMedium (g.H.Host.view c.give_back.new.host) m (g.H.Host.view c.medium_back.new.self)) (c.into_medium.ensures ∙ ap (λ s. s.medium) c.in-Err.ensures.none_shelf) c.medium_back.ensures)
    c.give_up.ensures.status c.give_up.ensures.line c.give_up.ensures.others
