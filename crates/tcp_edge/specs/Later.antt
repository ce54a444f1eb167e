-- Counts that never fall.
use Rattle.std.proofs.Common.{ℕ, [], refl, arith}
use Rattle.links.specs.Links.{IsLater}
use Rattle.tcp_edge.specs.Edge.{IsNoLess, untold}

pub later_none : (n : ℕ) → IsNoLess n n
later_none n = record { later = omega arith }

pub later_then : (a b c : ℕ) → IsNoLess a b → IsNoLess b c → IsNoLess a c
later_then a b c first next = record { later = omega (arith, first.later, next.later) }

pub is_later : (a b : ℕ) → IsNoLess a b → IsLater (untold a) (untold b)
is_later a b l = record { taken = []; written = []; moves = refl; faults = l.later }
