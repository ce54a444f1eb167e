use Rattle.std.proofs.Common.{◌≡◌, take}
use Rattle.fmb_drive.specs.Steps.{DoesAll, driver, stage}
use Rattle.tracker_session.specs.Trackers.{IsSameDevice}
use Rattle.fmb_drive.proofs.playing.play.Given as goal

abbrev pub invariant-loop-i : goal.invariant-loop-i
invariant-loop-i g l = record {
  done : DoesAll l.address (driver l.initial.tracker l.initial.acquirer) (take l.i l.script) (stage l.initial.tracker l.initial.acquirer) (stage l.tracker l.acquirer) (g.H.Host.view l.initial.host) (g.H.Host.view l.host);
  same : IsSameDevice l.initial.tracker l.tracker;
  settings : l.acquirer.settings ≡ l.initial.acquirer.settings;
}
