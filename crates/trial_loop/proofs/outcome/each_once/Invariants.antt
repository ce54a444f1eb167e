use Rattle.std.proofs.Common.{◌≡◌, drop, fold}
use Rattle.avl_values.specs.Viewed.{records_viewed}
use Rattle.trial_model.specs.RecordLists.{add_once}
use Rattle.trial_loop.proofs.outcome.each_once.Given as goal

abbrev pub invariant-loop-rec : goal.invariant-loop-rec
invariant-loop-rec l = fold add_once l.once (records_viewed (drop l.rec-index l.rec-items)) ≡ fold add_once l.initial.once (records_viewed l.rec-items)
