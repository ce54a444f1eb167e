use Rattle.std.proofs.Common.{◌≡◌, ◌++◌, drop}
use Rattle.std.specs.List.{flat_map}
use Rattle.fmb_text.specs.Report.{device_line}
use Rattle.fmb_text.proofs.report.push_brief_report.Given as goal

abbrev pub invariant-devices : goal.invariant-devices
invariant-devices l =
    l.text.items ++ flat_map device_line (drop l.i l.outcome.devices)
    ≡ l.initial.text.items ++ flat_map device_line l.outcome.devices
