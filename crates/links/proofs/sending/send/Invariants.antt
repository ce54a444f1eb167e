use Rattle.std.proofs.Common.{length, take, ◌-◌, [], ◌≡◌, ◌≤◌}
use Rattle.links.specs.Links.{Moves}
use Rattle.links.proofs.sending.send.Given as goal

-- The first bytes were written, nothing was taken, and the link has not failed since.
abbrev pub invariant-loop-done : goal.invariant-loop-done
invariant-loop-done g l =
    (l.done ≤ length l.bytes) × Moves [] (take l.done l.bytes) (g.L.Link.state l.fn.link).told (g.L.Link.state l.link).told
    × ((g.L.Link.state l.link).faults ≡ (g.L.Link.state l.fn.link).faults) × g.L.Link.follows l.fn.link l.link

abbrev pub decreases-loop-done : goal.decreases-loop-done
decreases-loop-done g l = length l.bytes - l.done
