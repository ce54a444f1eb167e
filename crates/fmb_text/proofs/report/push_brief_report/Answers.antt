use Rattle.std.proofs.Common.{◌<◌, ◌≤◌, length, append_assoc, arith}
use Rattle.std.specs.List.{flat_map}
use Rattle.fmb_text.proofs.AppendLemmas.{at_drop_got, none_left, piece_appended}
use Rattle.fmb_text.specs.Report.{device_line}
use Rattle.fmb_text.proofs.report.push_brief_report.Goals as goal

pub devices-preserved : goal.devices-preserved
devices-preserved c =
    let inside : c.devices.i < length c.args.outcome.now.devices = omega (arith, c.devices-i-end.ensures, c.devices-test.true) in
    piece_appended _ _ _ _ _ _ c.in_ok-push_device_line.ensures
    (at_drop_got (flat_map device_line) c.args.outcome.now.devices c.devices.i c.device_at.result.now inside c.device_at.ensures)
    c.devices.invariant

pub returns : goal.returns
returns c =
    let past : length c.args.outcome.now.devices ≤ c.devices.i = omega (arith, c.devices-i-end.ensures, c.devices-test.false) in
    rw (
      c.in_ok-push-2.ensures.ok,
      c.in_ok-push_decimal.ensures.ok,
      c.in_ok-push.ensures.ok,
      none_left device_line c.args.outcome.now.devices c.devices.i _ _ past c.devices.invariant,
      c.connections.ensures,
    ) (simp append_assoc)
