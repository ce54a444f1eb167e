use Rattle.fmb_drive.proofs.Finishing.{drives_ended, drives_none}
use Rattle.fmb_drive.proofs.driving.drive_device.Goals as goal

pub returns-in_default : goal.returns-in_default
returns-in_default g c =
    drives_none c.args.address.now c.args.flash.now c.args.script.now c.args.device.imei c.args.device.slots c.args.device.order c.args.device.settings _ (g.H.Host.view c.open_medium.new.self) _ c.requires.device c.in_default.ensures.failed c.say.ensures.line c.say.ensures.others

pub returns : goal.returns
returns g c =
    drives_ended c.args.address.now c.args.flash.now c.args.script.now _ (g.H.Host.view c.open_medium.new.self) (g.H.Host.view c.drive_on-ended.new.host) (g.H.Host.view c.medium_back.new.self) _ _ _ _ c.args.device.imei c.args.device.slots c.args.device.order c.args.device.settings
    c.drive_on-ended.result.0 c.in-Ok.ensures.handed c.medium_back.ensures c.requires.device c.requires.drivable c.in-Ok.ensures.fresh c.drive_on-ended.ensures.done c.drive_on-ended.ensures.stopped c.end_drive.ensures.well c.end_drive.ensures.early
