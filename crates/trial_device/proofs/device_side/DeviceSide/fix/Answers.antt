-- The records that a fix makes are stored, and the line ends.
use Rattle.std.proofs.Common.{◌∙◌, ap}
use Rattle.avl_values.specs.Viewed.{records_viewed}
use Rattle.trial_device.proofs.Counting.{fix-ends, fix-stores}
use Rattle.trial_device.proofs.device_side.DeviceSide.fix.Goals as goal

pub returns : goal.returns
returns g c =
    let stores =
    fix-stores c.args.fix.now c.args.self.now c.begin.new.self c.acquire-records.new.self c.store_all.new.self _ c.begin.ensures.armed c.acquire-records.ensures.side
    (ap records_viewed c.as_slice.ensures.value ∙ c.acquire-records.ensures.records) c.in_ok-store_all.ensures.stores in
    record { kept = c.store_all.new.self; stores = stores; ends = fix-ends c.args.fix.now c.args.self.now c.store_all.new.self c.end.new.self stores c.end.ensures }
