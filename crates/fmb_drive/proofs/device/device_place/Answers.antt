use Rattle.std.proofs.Common.{◌<◌, length, Some, refl, ap, ◌∙◌, arith}
use Rattle.trial_model.specs.Script.{device_on, lines_of}
use Rattle.fmb_drive.proofs.Devices.{first_here, not_device}
use Rattle.fmb_drive.proofs.Places.{finds_more}
use Rattle.fmb_drive.proofs.device.device_place.Goals as goal

pub returns-in-Device-clause-first : goal.returns-in-Device-clause-first
returns-in-Device-clause-first c =
    let low : c.loop-i.i < length c.args.script.now = omega (arith, c.loop-i-test.true, c.len-i-end.ensures.len) in
    first_here c.args.script.now c.loop-i.i _ _ low c.loop-i.invariant (c.line_at.ensures ∙ ap Some c.in-Device.is) refl

pub loop-i-preserved : goal.loop-i-preserved
loop-i-preserved c =
    finds_more (device_on (lines_of c.args.script.now)) c.args.script.now c.loop-i.i c.line_at.result _ c.line_at.ensures c.loop-i.invariant
    ∙ not_device (lines_of c.args.script.now) c.line_at.result c.in_default.not-Device
