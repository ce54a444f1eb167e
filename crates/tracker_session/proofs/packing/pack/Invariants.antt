use Rattle.std.proofs.Common.{◌≡◌}
use Rattle.tracker_session.proofs.BatchSteps.{packed}
use Rattle.tracker_session.proofs.packing.pack.Given as goal

abbrev pub invariant-loop-slot : goal.invariant-loop-slot
invariant-loop-slot g l = l.body ≡ packed l.ring.slots l.slots l.initial.body.codec l.slot-index
