use Rattle.std.proofs.Common.{refl}
use Rattle.session_core.specs.Knowing.{knows}
use Rattle.fmb_serve.proofs.Ran.{archive_unopened, medium_unopened, serve_refuses, serve_serves}
use Rattle.fmb_serve.proofs.serving.run_serve.Goals as goal

pub returns-in_default : goal.returns-in_default
returns-in_default g c =
    let ran = medium_unopened g.H.Gate.L.Link.state g.H.Gate.L.Link.follows (knows c.args.known.now) c.args.address.now c.args.archive.now c.args.workers c.args.sessions (g.H.Host.view c.args.host.now) (g.H.Host.view c.say.new.host) (g.H.Host.view c.open_medium.new.self) _
    c.in_default.ensures.failed refl c.say.ensures.line c.say.ensures.others
    in
    record { ran = ran; refuses = serve_refuses _ _ _ _ _ _ _ _ _ _ ran; serves = serve_serves _ _ _ _ _ _ _ _ _ _ ran }

pub returns-in-Ok-open : goal.returns-in-Ok-open
returns-in-Ok-open g c =
    let ran = c.serve_shelf.ensures (g.H.Host.view c.args.host.now) c.args.archive.now (record {
      medium = g.H.File.Medium.state c.in-Ok.medium;
      handed = c.in-Ok.ensures.handed;
      is_archive = c.in-Ok-open.ensures.archive;
      list = c.in-Ok-open.ensures.list;
    })
    in
    record { ran = ran; refuses = serve_refuses _ _ _ _ _ _ _ _ _ _ ran; serves = serve_serves _ _ _ _ _ _ _ _ _ _ ran }

pub returns-in-Err : goal.returns-in-Err
returns-in-Err g c =
    let ran = archive_unopened g.H.Gate.L.Link.state g.H.Gate.L.Link.follows (knows c.args.known.now) c.args.address.now c.args.archive.now c.args.workers c.args.sessions (g.H.Host.view c.args.host.now) (g.H.Host.view c.refuse.new.host) _ _ _ _ (g.H.Host.view c.open_medium.new.self) (g.H.Host.view c.medium_back.new.self)
    c.in-Ok.ensures.handed c.in-Ok.ensures.fresh c.in-Err.ensures.run_err.cause c.in-Err.ensures.not_archive c.in-Err.ensures.not_written c.medium_back.ensures
    c.refuse.ensures.medium_fault c.refuse.ensures.not_archive c.refuse.ensures.no_memory c.refuse.ensures.others
    in
    record { ran = ran; refuses = serve_refuses _ _ _ _ _ _ _ _ _ _ ran; serves = serve_serves _ _ _ _ _ _ _ _ _ _ ran }
