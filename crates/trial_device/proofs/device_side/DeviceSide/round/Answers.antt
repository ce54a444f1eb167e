-- With more batches than slots, a round that ended Done has emptied the ring.
use Rattle.std.proofs.Common.{true, ◌<◌, length, subst}
use Rattle.trial_device.specs.SideLines.{HasDrained, end_of}
use Rattle.trial_device.specs.Sides.{Side}
use Rattle.trial_device.proofs.Rounding.{drained-by}
use Rattle.trial_device.proofs.device_side.DeviceSide.round.Goals as goal

pub returns-clause-drained : goal.returns-clause-drained
returns-clause-drained g c =
    let P : Side → Type 0 = λ s. length s.ring.slots < c.args.most → HasDrained true (end_of c.round.result) c.round.new.self.ring in
    subst P c.self.view_is (λ few. drained-by c.round.result c.args.most _ _ c.self.inside.tracker.ring c.round.new.self.ring c.round.ensures.round.ring few c.round.ensures.drained)
