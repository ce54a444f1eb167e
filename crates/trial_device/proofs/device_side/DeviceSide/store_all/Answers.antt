-- Each record is stored in turn.
use Rattle.std.proofs.Common.{◌+◌, refl}
use Rattle.trial_device.proofs.Counting.{loop-first, loop-more, loop-one, record-at}
use Rattle.trial_device.proofs.device_side.DeviceSide.store_all.Goals as goal

pub loop-rec-init : goal.loop-rec-init
loop-rec-init g c = loop-first c.args.self.now c.args.records.now c.requires.counting

pub store-requires-clause-counting : goal.store-requires-clause-counting
store-requires-clause-counting g c = loop-one _ c.args.records.now c.loop-rec.rec-index _ c.loop-rec-test.true c.loop-rec.invariant

pub store-requires-clause-is_record : goal.store-requires-clause-is_record
store-requires-clause-is_record g c = record-at _ c.args.records.now c.loop-rec.rec-index c.rec-item.result c.requires.are_records c.loop-rec-test.true c.rec-item.is

pub loop-rec-preserved : goal.loop-rec-preserved
loop-rec-preserved g c =
    loop-more c.args.self.now c.args.records.now c.loop-rec.rec-index (c.loop-rec.rec-index + 1) c.loop-rec.self c.store.new.self c.rec-item.result c.loop-rec-test.true refl c.rec-item.is c.in_ok-store.ensures c.loop-rec.invariant
