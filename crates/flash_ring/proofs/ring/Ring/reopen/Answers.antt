-- The ring is what was read.
use Rattle.std.proofs.Common.{◌≤◌, ◌∙◌, length, ap, refl, arith}
use Rattle.std.specs.VecDeque.{deque_capacity}
use Rattle.flash_ring.specs.Held.{next_of}
use Rattle.flash_ring.specs.Queue.{queue_of}
use Rattle.flash_ring.proofs.Queues.{queue-loaded}
use Rattle.flash_ring.proofs.Rings.{durable_up, next_fits, ring-loaded}
use Rattle.flash_ring.proofs.ring.Ring.reopen.Goals as goal

pub next_after-self-inside-requires : goal.next_after-self-inside-requires
next_after-self-inside-requires g c = next_fits c.deref-2.result.now c.load_all.new.slots.items c.deref-2.ensures.value c.in_ok-load_all.ensures.sound

pub invariant_of-self-2 : goal.invariant_of-self-2
invariant_of-self-2 g c =
    let fits : length c.load_all.new.slots.items ≤ deque_capacity c.fill.new.queue = omega (arith, c.load_all.ensures.size, c.self.invariant.1.fits, c.fill.ensures.capacity) in (
      ring-loaded _ c.load_all.new.slots.items _ _ c.self.invariant.0.some c.self.invariant.0.few c.load_all.ensures.size
          (let enough = c.self.invariant.0.ready in let later = c.load_all.ensures.counted.counted.ready in omega arith) c.in_ok-load_all.ensures.settled c.in_ok-load_all.ensures.sound
          (c.next_after-self-inside.ensures ∙ ap next_of c.deref-2.ensures.value),
      queue-loaded c.load_all.new.slots.items _ _ _ fits (c.fill.ensures.items ∙ ap queue_of c.deref.ensures.value),
    )

pub returns-clause-durable : goal.returns-clause-durable
returns-clause-durable g c =
    durable_up _ ((ring-loaded _ c.load_all.new.slots.items _ _ c.self.invariant.0.some c.self.invariant.0.few c.load_all.ensures.size
    (let enough = c.self.invariant.0.ready in let later = c.load_all.ensures.counted.counted.ready in omega arith) c.in_ok-load_all.ensures.settled c.in_ok-load_all.ensures.sound
    (c.next_after-self-inside.ensures ∙ ap next_of c.deref-2.ensures.value)).up refl) refl
