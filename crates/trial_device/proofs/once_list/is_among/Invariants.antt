use Rattle.std.proofs.Common.{◌≡◌, drop}
use Rattle.avl_values.specs.Viewed.{record_of, records_viewed}
use Rattle.trial_model.specs.RecordLists.{is_listed}
use Rattle.trial_device.proofs.once_list.is_among.Given as goal

abbrev pub invariant-loop-item : goal.invariant-loop-item
invariant-loop-item l = is_listed (records_viewed (drop l.item-index l.list)) (record_of l.rec) ≡ is_listed (records_viewed l.list) (record_of l.rec)
