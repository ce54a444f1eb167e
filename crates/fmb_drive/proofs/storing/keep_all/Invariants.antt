use Rattle.std.proofs.Common.{take}
use Rattle.avl_values.specs.Viewed.{records_viewed}
use Rattle.fmb_drive.specs.Steps.{StoresAll}
use Rattle.tracker_session.specs.Trackers.{IsSameDevice}
use Rattle.fmb_drive.proofs.storing.keep_all.Given as goal

abbrev pub invariant-loop-rec : goal.invariant-loop-rec
invariant-loop-rec g l = record {
  stored : StoresAll l.initial.tracker.imei (records_viewed (take l.rec-index l.records)) l.initial.tracker.ring l.tracker.ring (g.H.Host.view l.initial.host) (g.H.Host.view l.host);
  same : IsSameDevice l.initial.tracker l.tracker;
}
