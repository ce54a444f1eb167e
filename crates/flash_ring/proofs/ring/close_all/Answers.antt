-- Each slot is one of the ring's, and is closed after those before.
use Rattle.std.proofs.Common.{ℕ, List, length, get_or, take, set, None, Option, ap, sym, ◌∙◌, subst, arith}
use Rattle.std.proofs.lemmas.List.{take_more}
use Rattle.flash_ring.specs.Held.{Held, closed_all}
use Rattle.flash_ring.specs.Queue.{AreApart, others}
use Rattle.flash_ring.proofs.Closes.{slot-low, closed_all-push, length-closed_all}
use Rattle.flash_ring.proofs.Queues.{opened_closed, queue_apart, queue_closed}
use Rattle.flash_ring.proofs.ring.close_all.Goals as goal

pub index_mut-requires : goal.index_mut-requires
index_mut-requires c =
    let low = slot-low c.args.slots.now c.args.held.now.items c.requires.opens c.loop-slot.slot-index (omega arith) in
    let size = ap length c.loop-slot.invariant.closed ∙ length-closed_all (take c.loop-slot.slot-index c.args.slots.now) c.args.held.now.items in
    omega (arith, low, c.loop-slot.held.ok.0)

pub take_out-requires : goal.take_out-requires
take_out-requires c = subst AreApart (sym c.loop-slot.invariant.queue) (queue_apart c.loop-slot.held.items)

pub loop-slot-preserved : goal.loop-slot-preserved
loop-slot-preserved c =
    let xs = c.args.slots.now in let i = c.loop-slot.slot-index in
    let slots = c.loop-slot.held.items in
    record {
      closed =
          ap (λ (held : List (Option Held)). set held (get_or xs i 0) None) c.loop-slot.invariant.closed
          ∙ sym (closed_all-push (take i xs) (get_or xs i 0) c.args.held.now.items)
          ∙ ap (λ (ks : List ℕ). closed_all ks c.args.held.now.items) (sym (take_more xs i 0 (omega arith)));
      queue = c.take_out.ensures.items ∙ ap (others (get_or xs i 0)) c.loop-slot.invariant.queue ∙ queue_closed slots (get_or xs i 0);
      capacity = c.take_out.ensures.capacity ∙ c.loop-slot.invariant.capacity;
      opened = opened_closed slots c.loop-slot.opened _ (get_or xs i 0) (omega (arith, c.lesser.ensures.first)) (omega (arith, c.lesser.ensures.second)) c.loop-slot.invariant.opened;
    }
