use Rattle.std.proofs.Common.{subst, sym, ap, ◌∙◌, Err}
use Rattle.std.proofs.lemmas.List.{length-map}
use Rattle.session_core.specs.Knowing.{knows}
use Rattle.fmb_host.specs.Host.{AreSmall, TakesBackMedium}
use Rattle.fmb_serve.proofs.Ran.{doors_unopened}
use Rattle.fmb_serve.proofs.serving.serve_shelf.Goals as goal

pub serve_at-requires-clause-small : goal.serve_at-requires-clause-small
serve_at-requires-clause-small g c = λ κs within. subst AreSmall (sym (ap (λ h. h.counts) c.in-Ok.ensures.opened.others)) c.requires.small

pub returns-in-Ok : goal.returns-in-Ok
returns-in-Ok g c = λ start archive opened. c.serve_at.ensures start c.args.address.now archive c.args.workers (record {
  mid = g.H.Host.view c.args.host.now;
  opened = opened;
  hands = c.in-Ok.ensures.opened;
  count = length-map _ g.H.Gate.Door.state ∙ c.in-Ok.ensures.count;
})

pub returns-in-Err : goal.returns-in-Err
returns-in-Err g c = λ start archive opened.
    doors_unopened g.H.Gate.L.Link.state g.H.Gate.L.Link.follows (knows c.args.known.now) c.args.address.now archive c.args.workers c.args.sessions start _ c.in-Err.missing _ c.args.shelf (g.H.Host.view c.args.host.now) (g.H.Host.view c.open_doors.new.host) (g.H.Host.view c.medium_back.new.self) opened
    (λ e. c.open_doors.ensures.host_fault (c.in-Err.is ∙ ap Err e)) (λ e. c.open_doors.ensures.no_memory (c.in-Err.is ∙ ap Err e)) (λ e. c.open_doors.ensures.among (c.in-Err.is ∙ ap Err e))
    (subst (λ m. TakesBackMedium (g.H.Host.view c.open_doors.new.host) m (g.H.Host.view c.medium_back.new.self)) c.into_medium.ensures c.medium_back.ensures)
    c.miss.ensures.host_fault c.miss.ensures.no_memory c.miss.ensures.others
