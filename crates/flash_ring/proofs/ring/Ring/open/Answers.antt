-- The ring is what was read.
use Rattle.std.proofs.Common.{◌≤◌, ◌∙◌, length, ap, refl, arith}
use Rattle.std.specs.VecDeque.{deque_capacity}
use Rattle.flash_ring.specs.Held.{next_of}
use Rattle.flash_ring.proofs.Queues.{queue-loaded}
use Rattle.flash_ring.proofs.Rings.{durable_up, next_fits, ring-loaded}
use Rattle.flash_ring.proofs.ring.Ring.open.Goals as goal

pub next_after-next-requires : goal.next_after-next-requires
next_after-next-requires g c = next_fits c.deref.result.now c.in-Ok.found.items c.deref.ensures.value c.in-Ok.ensures.sound

pub invariant_of-result : goal.invariant_of-result
invariant_of-result g c =
    let fits : length c.in-Ok.found.items ≤ deque_capacity c.in-Ok.queue = omega (arith, c.in-Ok.ensures.size, c.in-Ok.ensures.room) in (
      ring-loaded _ c.in-Ok.found.items c.args.slots _ c.requires.some c.requires.few c.in-Ok.ensures.size c.in-Ok.ensures.ready c.in-Ok.ensures.settled c.in-Ok.ensures.sound
          (c.next_after-next.ensures ∙ ap next_of c.deref.ensures.value),
      queue-loaded c.in-Ok.found.items _ _ _ fits c.in-Ok.ensures.queue,
    )

pub returns-in-Ok-clause-durable : goal.returns-in-Ok-clause-durable
returns-in-Ok-clause-durable g c =
    durable_up _ ((ring-loaded _ c.in-Ok.found.items c.args.slots _ c.requires.some c.requires.few c.in-Ok.ensures.size c.in-Ok.ensures.ready c.in-Ok.ensures.settled c.in-Ok.ensures.sound
    (c.next_after-next.ensures ∙ ap next_of c.deref.ensures.value)).up refl) refl
