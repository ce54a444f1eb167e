-- The queue has no more than the slots are.
use Rattle.std.proofs.Common.{◌∙◌, ap, length, arith}
use Rattle.flash_ring.specs.Ring.{RingView}
use Rattle.flash_ring.proofs.Queues.{queue_few}
use Rattle.flash_ring.proofs.ring.Ring.held.Goals as goal

pub overflow_cast-result : goal.overflow_cast-result
overflow_cast-result g c =
    let up = ap (λ (v : RingView). v.down) c.self.view_is ∙ c.requires in
    let has = ap length (c.self.invariant.1.has up) in
    let few = queue_few c.self.inside.slots.items in
    omega (arith, c.self.invariant.0.few, c.self.inside.queue.ok.0)
