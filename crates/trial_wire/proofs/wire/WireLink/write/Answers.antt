use Rattle.std.proofs.Common.{length, subst, sym, take, arith}
use Rattle.trial_wire.specs.WireLinks.{Follows, Passes, WireState}
use Rattle.trial_wire.proofs.Passing.{failed-follows, on-err, on-ok, passed-follows, sent-follows, up_to-least}
use Rattle.trial_wire.proofs.Giving.{goes-on}
use Rattle.trial_wire.proofs.wire.WireLink.write.Goals as goal

pub returns-then-is_err-clause-follows : goal.returns-then-is_err-clause-follows
returns-then-is_err-clause-follows g c =
    let w = c.self.inside in
    let before : WireState = record { known = w.known; limit = w.limit; most = w.most; up = w.up; given = w.given; down = w.down; heard = w.heard; shelf = w.shelf; session = w.session; ended = w.ended; faults = w.faults } in
    subst (λ (a : WireState). Follows a (record before { up = c.extend_from_slice.new.self; faults = c.saturating_add-self-inside.result })) c.self.view_is
    (failed-follows before c.extend_from_slice.new.self c.saturating_add-self-inside.result (on-err c.extend_from_slice.result _ (sym c.if-is_err.ensures.value) c.extend_from_slice.ensures.err) (omega (arith, c.saturating_add-self-inside.ensures, c.self.ranges)))

pub returns-then-is_none-clause-follows : goal.returns-then-is_none-clause-follows
returns-then-is_none-clause-follows g c =
    let w = c.self.inside in
    let wire = c.self.invariant.1 in
    let before : WireState = record { known = w.known; limit = w.limit; most = w.most; up = w.up; given = w.given; down = w.down; heard = w.heard; shelf = w.shelf; session = w.session; ended = w.ended; faults = w.faults } in
    subst (λ (a : WireState). Follows a (record before { up = c.extend_from_slice.new.self; given = c.pass-given.result.0; down = c.pass-given.new.down; shelf = c.pass-given.new.shelf; session = c.pass-given.new.session; ended = c.pass-given.result.1 })) c.self.view_is
    (passed-follows before c.extend_from_slice.new.self (take c.min-count.result c.args.from.now) c.pass-given.result.0 c.within-to.result c.pass-given.new.session c.pass-given.new.shelf c.pass-given.new.down c.pass-given.result.1
    (on-ok c.extend_from_slice.result _ (sym c.if-is_err.ensures.value) c.extend_from_slice.ensures.ok)
    (omega (arith, wire.given, up_to-least w.limit (length w.up)))
    (omega (arith, wire.heard, up_to-least w.most (length w.down)))
    (goes-on w.ended c.if-is_none.ensures)
    (subst (λ u. Passes w.known u w.given c.within-to.result c.pass-given.new.session w.shelf c.pass-given.new.shelf w.down c.pass-given.new.down c.pass-given.result.0 c.pass-given.result.1) c.as_slice.ensures c.pass-given.ensures))

pub returns-else-is_none-clause-follows : goal.returns-else-is_none-clause-follows
returns-else-is_none-clause-follows g c =
    let w = c.self.inside in
    let wire = c.self.invariant.1 in
    let before : WireState = record { known = w.known; limit = w.limit; most = w.most; up = w.up; given = w.given; down = w.down; heard = w.heard; shelf = w.shelf; session = w.session; ended = w.ended; faults = w.faults } in
    subst (λ (a : WireState). Follows a (record before { up = c.extend_from_slice.new.self })) c.self.view_is
    (sent-follows before c.extend_from_slice.new.self (take c.min-count.result c.args.from.now) (on-ok c.extend_from_slice.result _ (sym c.if-is_err.ensures.value) c.extend_from_slice.ensures.ok)
    (omega (arith, wire.given, up_to-least w.limit (length w.up))))
