use Rattle.std.proofs.Common.{◌≡◌, ◌++◌, ◌+◌, drop}
use Rattle.std.specs.List.{flat_map}
use Rattle.fmb_text.specs.Report.{connection_lines, device_text}
use Rattle.fmb_text.proofs.report.push_full_report.Given as goal

abbrev pub invariant-devices : goal.invariant-devices
invariant-devices l =
    l.text.items ++ flat_map device_text (drop l.i l.outcome.devices)
    ≡ l.initial.text.items ++ flat_map device_text l.outcome.devices

abbrev pub invariant-connections : goal.invariant-connections
invariant-connections l =
    l.text.items ++ connection_lines (l.i + 1) (drop l.i l.outcome.connections)
    ≡ l.initial.text.items ++ connection_lines 1 l.outcome.connections
