use Rattle.std.proofs.Common.{◌≡◌, drop}
use Rattle.trial_loop.proofs.Opened.{cut_places}
use Rattle.trial_loop.proofs.connections.cut_at.Given as goal

abbrev pub invariant-loop-place : goal.invariant-loop-place
invariant-loop-place l = cut_places (drop l.place-index l.places) l.all.items ≡ cut_places l.places l.fn.all.items
