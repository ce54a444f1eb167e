use Rattle.std.proofs.Common.{◌≤◌, length, drop}
use Rattle.avl_values.specs.Viewed.{records_viewed}
use Rattle.acquisition.specs.Made.{event_record}
use Rattle.acquisition.proofs.Together.{RecordsSoFar}
use Rattle.acquisition.proofs.settings.Settings.event_records.Given as goal

abbrev pub invariant-loop-s : goal.invariant-loop-s
invariant-loop-s l = (length l.records.items ≤ l.s-index) × RecordsSoFar l.self.codec (event_record l.self l.fix) l.fired (records_viewed l.records.items) (drop l.s-index l.fired)
