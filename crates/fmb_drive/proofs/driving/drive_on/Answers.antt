use Rattle.std.proofs.Common.{IfErr, ap, ◌∙◌}
use Rattle.flash_ring.specs.Ring.{RingView}
use Rattle.fmb_drive.proofs.Opened.{if_err, if_ok, plays_stopped, stops_unopened}
use Rattle.fmb_drive.specs.Ending.{StopsOn}
use Rattle.fmb_drive.specs.Scripts.{driver_by}
use Rattle.fmb_drive.proofs.driving.drive_on.Goals.{in-Ok-played, in-Err-played}
use Rattle.fmb_drive.proofs.driving.drive_on.Goals as goal

pub returns-in-Err-clause-stopped : goal.returns-in-Err-clause-stopped
returns-in-Err-clause-stopped g c = stops_unopened _ c.in-Err.stop (driver_by c.args.device) c.args.device.slots c.args.script.now _ _ _ c.in-Err.ensures.stopped

pub returns-clause-stopped : goal.returns-clause-stopped
returns-clause-stopped g c = elim c.match-played.branch as (λ _. IfErr c.match-played.ended (λ stop. StopsOn c.args.address.now stop (driver_by c.args.device) c.args.device.slots c.args.script.now (g.H.File.Medium.state c.args.flash) (g.H.File.Medium.state c.into_medium.result) (g.H.Host.view c.args.host.now) (g.H.Host.view c.play-played.new.host))) [
  | in-Ok-played w ↦ if_ok _ _ _ w.ended-is
  | in-Err-played w ↦ if_err _ _ _ w.ended-is
      (plays_stopped _ (driver_by c.args.device) c.args.device.slots c.args.script.now _ c.in-Ok.ring c.new-tracker.result c.play-played.new.tracker c.new-acquirer.result c.play-played.new.acquirer _ _ c.new-tracker.ensures c.new-acquirer.ensures
      c.in-Ok.ensures.opens c.in-Ok.ensures.run w.in-Err-played.stop _ c.in-Ok.ensures.size (c.into_medium.ensures ∙ ap (λ (r : RingView). r.medium) c.into_ring.ensures) w.in-Err-played.ensures.stopped)
]
