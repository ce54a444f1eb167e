use Rattle.std.proofs.Common.{Some, ap, ◌∙◌}
use Rattle.fmb_drive.proofs.Devices.{device_by, never_refused}
use Rattle.fmb_drive.proofs.device.device_of.Goals as goal

pub unreachable-requires : goal.unreachable-requires
unreachable-requires c =
    never_refused c.args.script.now c.in-Some.place c.in-Some.ensures.first c.device_place.ensures.is_script _ _ _ _ _ _ _ _ _ (c.line_at.ensures ∙ ap Some c.in-Device.is)
    c.as_slice.result.now c.in-Err.field-0 (c.as_slice.ensures.value ∙ c.in_ok-ios-in-Device.ensures) c.in-Err.ensures.checked

pub returns : goal.returns
returns c =
    device_by c.args.script.now c.in-Some.place c.in-Some.ensures.first c.device_place.ensures.is_script _ _ _ _ _ _ _ _ _ (c.line_at.ensures ∙ ap Some c.in-Device.is)
    c.as_slice.result.now c.in-Ok.settings (c.as_slice.ensures.value ∙ c.in_ok-ios-in-Device.ensures) c.in-Ok.ensures.settings
