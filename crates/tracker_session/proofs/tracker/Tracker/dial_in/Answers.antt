-- The talk begins.
use Rattle.std.proofs.Common.{◌∙◌, ap}
use Rattle.item_streams.specs.Readers.{Reader}
use Rattle.tracker_session.specs.Trackers.{TrackerView}
use Rattle.tracker_session.proofs.Silence.{dialed-tracker}
use Rattle.tracker_session.proofs.tracker.Tracker.dial_in.Goals as goal

pub invariant_of-self : goal.invariant_of-self
invariant_of-self g c =
    let e = c.begin_login.ensures in
    (dialed-tracker _ (ap (λ (v : TrackerView). v.ring.down) c.self.view_is ∙ c.requires) c.clear.ensures (ap (λ (s : Reader). s.after_first) e) (ap (λ (s : Reader). s.have) e), λ _. ap (λ (s : Reader). s.failed) e)
