use Rattle.std.proofs.Common.{◌≡◌, ◌≤◌, ◌+◌, Some, [], ap, drop, length, subst, sym, take, arith, length-drop}
use Rattle.links.specs.Links.{Traffic, with_more}
use Rattle.trial_wire.specs.WireLinks.{Follows, WireState}
use Rattle.trial_wire.proofs.Passing.{read-follows, read-took, up_to-least}
use Rattle.trial_wire.proofs.wire.WireLink.read.Goals as goal

pub returns-clause-took : goal.returns-clause-took
returns-clause-took g c =
    let low : c.min-count.result ≤ length (drop c.self.inside.heard c.self.inside.down) =
    omega (arith, c.min-count.ensures, c.min.ensures, c.within.ensures, c.len.ensures, length-drop c.self.inside.heard c.self.inside.down, up_to-least c.self.inside.most c.len.result, c.self.invariant.1.heard) in
    subst (λ (w : WireState). Some (let t : Traffic = record { taken = take (c.self.inside.heard + c.min-count.result) c.self.inside.down; written = c.self.inside.up } in t)
    ≡ Some (with_more (take c.min-count.result c.copy_from.new.into) [] (record { taken = take w.heard w.down; written = w.up }))) c.self.view_is
    (subst (λ into. Some (let t : Traffic = record { taken = take (c.self.inside.heard + c.min-count.result) c.self.inside.down; written = c.self.inside.up } in t)
    ≡ Some (with_more (take c.min-count.result into) [] (record { taken = take c.self.inside.heard c.self.inside.down; written = c.self.inside.up }))) (sym c.copy_from.ensures)
    (read-took c.self.inside.heard c.min-count.result c.self.inside.up c.self.inside.down (take c.min-count.result (drop c.self.inside.heard c.as_slice.result.now)) (drop c.min-count.result c.args.into.now)
    (ap (λ d. take c.min-count.result (drop c.self.inside.heard d)) c.as_slice.ensures) low))

pub returns-clause-follows : goal.returns-clause-follows
returns-clause-follows g c =
    let w = c.self.inside in
    let before : WireState = record { known = w.known; limit = w.limit; most = w.most; up = w.up; given = w.given; down = w.down; heard = w.heard; shelf = w.shelf; session = w.session; ended = w.ended; faults = w.faults } in
    subst (λ (a : WireState). Follows a (record before { heard = w.heard + c.min-count.result })) c.self.view_is (read-follows before c.min-count.result)
