use Rattle.std.proofs.Common.{◌≡◌, true, take}
use Rattle.std.specs.VecDeque.{deque_capacity}
use Rattle.flash_ring.specs.Held.{closed_all, is_full}
use Rattle.flash_ring.specs.Queue.{queue_of}
use Rattle.flash_ring.proofs.ring.close_all.Given as goal

abbrev pub invariant-loop-slot : goal.invariant-loop-slot
invariant-loop-slot l = record {
  closed : l.held.items ≡ closed_all (take l.slot-index l.slots) l.initial.held.items;
  queue : l.queue.items ≡ queue_of l.held.items;
  capacity : deque_capacity l.queue ≡ deque_capacity l.initial.queue;
  opened : is_full (take l.opened l.held.items) ≡ true;
}
