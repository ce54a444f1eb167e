use Rattle.std.proofs.Common.{sym, ◌∙◌}
use Rattle.trial_loop.proofs.EnrolledLines.{same-further, set-further}
use Rattle.trial_loop.proofs.enrolling.add_setting.Goals as goal
use Rattle.trial_loop.proofs.enrolling.add_setting.Goals.{then-eq, else-eq}

pub loop-place-preserved : goal.loop-place-preserved
loop-place-preserved c = elim c.if-eq.branch [
  | then-eq w ↦ w.devices-is ∙ set-further c.args.imei c.args.setting c.args.devices.now c.loop-place.devices c.loop-place.place c.index-devices-place.result _ _ c.loop-place.invariant c.loop-place-test.true c.device.view_is (sym c.eq.ensures ∙ w.if-eq.true) w.push.ensures.items
  | else-eq w ↦ w.devices-is ∙ same-further c.args.imei c.args.setting c.args.devices.now c.loop-place.devices c.loop-place.place c.index-devices-place.result _ c.loop-place.invariant c.loop-place-test.true c.device.view_is (sym c.eq.ensures ∙ w.if-eq.false)
]
