use Rattle.std.proofs.Common.{◌≡◌, ◌++◌, drop}
use Rattle.avl_values.specs.Viewed.{records_viewed}
use Rattle.fmb_text.specs.Report.{record_lines}
use Rattle.fmb_text.proofs.devices.push_records.Given as goal

abbrev pub invariant-loop-item : goal.invariant-loop-item
invariant-loop-item l =
    l.text.items ++ record_lines l.list l.imei (records_viewed (drop l.item-index l.records))
    ≡ l.initial.text.items ++ record_lines l.list l.imei (records_viewed l.records)
