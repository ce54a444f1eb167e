-- How a link in memory goes on: no call, one call, and calls after calls.
use Rattle.std.proofs.Common.{◌≡◌, ℕ, ◌≤◌, List, [], ◌++◌, take, Some, refl, sym, ap, ◌∙◌, append_assoc, append-nil, arith}
use Rattle.std.proofs.lemmas.List.{take-append-drop}
use Rattle.avl_values.specs.Causes.{more_by_one}
use Rattle.links.specs.Links.{Traffic, IsLater}
use Rattle.links.specs.Memory.{MemoryLinkState, GoesOn, link_state, after_failure, after_read, after_write}

pub goes_on_none : (link : MemoryLinkState) → GoesOn link link
goes_on_none link = record {
  taken = [];
  written = [];
  takes = sym (append-nil link.taken);
  leaves = refl;
  writes = sym (append-nil link.written);
  piece = refl;
  room = refl;
  failing = refl;
  calls = omega arith;
  faults = omega arith;
}

pub goes_on_then : (a b c : MemoryLinkState) → GoesOn a b → GoesOn b c → GoesOn a c
goes_on_then a b c g h = record {
  taken = g.taken ++ h.taken;
  written = g.written ++ h.written;
  takes = h.takes ∙ (ap (λ (bytes : List ℕ). bytes ++ h.taken) g.takes ∙ append_assoc a.taken g.taken h.taken);
  leaves = g.leaves ∙ (ap (λ (bytes : List ℕ). g.taken ++ bytes) h.leaves ∙ sym (append_assoc g.taken h.taken c.left));
  writes = h.writes ∙ (ap (λ (bytes : List ℕ). bytes ++ h.written) g.writes ∙ append_assoc a.written g.written h.written);
  piece = h.piece ∙ g.piece;
  room = h.room ∙ g.room;
  failing = h.failing ∙ g.failing;
  calls = omega (arith, g.calls, h.calls);
  faults = omega (arith, g.faults, h.faults);
}

pub same_traffic : (a b c d : List ℕ) → a ≡ c → b ≡ d → Some (let t : Traffic = record { taken = a; written = b } in t) ≡ Some (let t : Traffic = record { taken = c; written = d } in t)
same_traffic a b c d p q = ap (λ (z : List ℕ × List ℕ). Some (let t : Traffic = record { taken = z.0; written = z.1 } in t)) (λ i. (p i, q i))

pub goes_on_later : (a b : MemoryLinkState) → GoesOn a b → IsLater (link_state a) (link_state b)
goes_on_later a b g = record {
  taken = g.taken;
  written = g.written;
  moves = same_traffic b.taken b.written (a.taken ++ g.taken) (a.written ++ g.written) g.takes g.writes;
  faults = g.faults;
}

pub goes_on_failed : (link : MemoryLinkState) → link.plan.calls ≤ more_by_one link.plan.calls → link.faults ≤ more_by_one link.faults → GoesOn link (after_failure link)
goes_on_failed link more_calls more_faults = record {
  taken = [];
  written = [];
  takes = sym (append-nil link.taken);
  leaves = refl;
  writes = sym (append-nil link.written);
  piece = refl;
  room = refl;
  failing = refl;
  calls = more_calls;
  faults = more_faults;
}

pub goes_on_read : (n : ℕ) (link : MemoryLinkState) → link.plan.calls ≤ more_by_one link.plan.calls → GoesOn link (after_read n link)
goes_on_read n link more_calls = record {
  taken = take n link.left;
  written = [];
  takes = refl;
  leaves = sym (take-append-drop n link.left);
  writes = sym (append-nil link.written);
  piece = refl;
  room = refl;
  failing = refl;
  calls = more_calls;
  faults = omega arith;
}

pub goes_on_written : (bytes : List ℕ) (link : MemoryLinkState) → link.plan.calls ≤ more_by_one link.plan.calls → GoesOn link (after_write bytes link)
goes_on_written bytes link more_calls = record {
  taken = [];
  written = bytes;
  takes = sym (append-nil link.taken);
  leaves = refl;
  writes = refl;
  piece = refl;
  room = refl;
  failing = refl;
  calls = more_calls;
  faults = omega arith;
}
