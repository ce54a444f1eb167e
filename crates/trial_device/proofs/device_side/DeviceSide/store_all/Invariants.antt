use Rattle.avl_values.specs.Viewed.{records_viewed}
use Rattle.trial_device.proofs.Counting.{IsStoring}
use Rattle.trial_device.proofs.device_side.DeviceSide.store_all.Given as goal

abbrev pub invariant-loop-rec : goal.invariant-loop-rec
invariant-loop-rec g l = IsStoring l.initial.self (records_viewed l.records) l.rec-index l.self
