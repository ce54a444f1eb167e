use Rattle.std.proofs.Common.{◌<◌, ◌+◌, length, arith}
use Rattle.std.specs.List.{flat_map}
use Rattle.fmb_text.proofs.AppendLemmas.{at_drop_got, piece_appended}
use Rattle.fmb_text.specs.Report.{connection_lines, device_text}
use Rattle.fmb_text.proofs.report.push_full_report.Goals as goal

pub devices-preserved : goal.devices-preserved
devices-preserved c =
    let inside : c.devices.i < length c.args.outcome.now.devices = omega (arith, c.devices-i-end.ensures, c.devices-test.true) in
    piece_appended _ _ _ _ _ _ c.in_ok-push_device.ensures
    (at_drop_got (flat_map device_text) c.args.outcome.now.devices c.devices.i c.device_at.result.now inside c.device_at.ensures)
    c.devices.invariant

pub connections-preserved : goal.connections-preserved
connections-preserved c =
    let inside : c.connections.i < length c.args.outcome.now.connections = omega (arith, c.connections-i-end.ensures, c.connections-test.true) in
    piece_appended _ _ _ _ _ _ c.in_ok-push_connection.ensures
    (at_drop_got (connection_lines (c.connections.i + 1)) c.args.outcome.now.connections c.connections.i c.connection_at.result.now inside c.connection_at.ensures)
    c.connections.invariant
