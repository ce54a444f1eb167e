use Rattle.std.proofs.Common.{◌≡◌, ◌++◌, drop}
use Rattle.fmb_text.specs.Report.{record_lines}
use Rattle.fmb_text.proofs.devices.push_wide_records.Given as goal

abbrev pub invariant-loop-item : goal.invariant-loop-item
invariant-loop-item l =
    l.text.items ++ record_lines l.list l.imei (drop l.item-index l.records)
    ≡ l.initial.text.items ++ record_lines l.list l.imei l.records
