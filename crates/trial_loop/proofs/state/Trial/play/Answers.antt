-- Each kind of line.
use Rattle.trial_loop.specs.Loops.{PlaysNext}
use Rattle.trial_loop.proofs.Stepping.{device-plays, seen-as, setting-plays}
use Rattle.trial_loop.proofs.state.Trial.play.Goals.{in-Device, in-Setting, in-Fix+in_ok-fix-in-Fix, in-Late+in_ok-late-in-Late, in-Close, in-Power+in_ok-lose_power-in-Power, in-Fuse}
use Rattle.trial_loop.proofs.state.Trial.play.Goals as goal

pub returns : goal.returns
returns g c = elim c.match-line.branch as (λ _. PlaysNext c.args.line.now c.args.self c.match-line.trial) [
  | in-Device w ↦ seen-as _ c.args.line.now c.args.self c.args.self c.match-line.trial w.in-Device.is w.trial-is
      (device-plays c.args.self w.in-Device.imei w.in-Device.codec w.in-Device.slots w.in-Device.order w.in-Device.period w.in-Device.distance w.in-Device.angle w.in-Device.speed w.in-Device.known)
  | in-Setting w ↦ seen-as _ c.args.line.now c.args.self c.args.self c.match-line.trial w.in-Setting.is w.trial-is (setting-plays c.args.self w.in-Setting.imei w.in-Setting.setting)
  | in-Fix+in_ok-fix-in-Fix w ↦ seen-as _ c.args.line.now c.args.self _ c.match-line.trial w.in-Fix.is w.trial-is w.in_ok-fix-in-Fix.ensures
  | in-Late+in_ok-late-in-Late w ↦ seen-as _ c.args.line.now c.args.self _ c.match-line.trial w.in-Late.is w.trial-is w.in_ok-late-in-Late.ensures
  | in-Close w ↦ seen-as _ c.args.line.now c.args.self _ c.match-line.trial w.in-Close.is w.trial-is w.close.ensures
  | in-Power+in_ok-lose_power-in-Power w ↦ seen-as _ c.args.line.now c.args.self _ c.match-line.trial w.in-Power.is w.trial-is w.in_ok-lose_power-in-Power.ensures
  | in-Fuse w ↦ seen-as _ c.args.line.now c.args.self _ c.match-line.trial w.in-Fuse.is w.trial-is w.arm.ensures
]
