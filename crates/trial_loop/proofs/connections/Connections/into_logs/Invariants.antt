use Rattle.std.proofs.Common.{◌≡◌, ◌++◌}
use Rattle.std.specs.Vec.Iter.{into_iter_items}
use Rattle.trial_play.specs.Trials.{logs_of}
use Rattle.trial_loop.proofs.connections.Connections.into_logs.Given as goal

abbrev pub invariant-loop-connection : goal.invariant-loop-connection
invariant-loop-connection l = record {
  devices : l.outcome.devices ≡ l.initial.outcome.devices;
  connections : l.outcome.connections ++ logs_of (into_iter_items l.connection-iterator) ≡ l.initial.outcome.connections ++ logs_of (into_iter_items l.initial.connection-iterator);
}
