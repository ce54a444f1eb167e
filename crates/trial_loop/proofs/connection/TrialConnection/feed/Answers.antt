use Rattle.std.proofs.Common.{◌<◌, ◌≤◌, ◌+◌, Bool, true, false, length, take, Option, Some, IfSome, is_some, sym, ◌∙◌, ap, subst, arith}
use Rattle.session_core.specs.Sessions.{SessionState}
use Rattle.trial_model.specs.Connections.{plus, up_to}
use Rattle.trial_wire.specs.Connections.{Connection}
use Rattle.trial_wire.specs.Hearing.{HasTaken}
use Rattle.trial_loop.specs.Feeding.{FeedsOne}
use Rattle.trial_loop.proofs.Feeding.{fed-passes, goes-on, is-over, passed-taken, place-low, takes-more}
use Rattle.trial_loop.proofs.connection.TrialConnection.feed.Goals.{then-is_some+in-Some-1, then-is_some+in-None-1, else-is_some}
use Rattle.trial_loop.proofs.connection.TrialConnection.feed.Goals as goal

pub invariant_of-self-else-is_some : goal.invariant_of-self-else-is_some
invariant_of-self-else-is_some g c =
    let log = c.self.inside.log in
    let has : HasTaken (take log.up_given log.up) c.in-Some.session = subst (λ (o : Option SessionState). IfSome o (HasTaken (take log.up_given log.up))) c.in-Some.is c.self.invariant in
    let low : log.up_given ≤ length log.up = subst (λ (w : Connection). w.log.up_given ≤ length w.log.up) (sym c.self.view_is) c.requires in
    let give = c.give-taken in
    passed-taken c.args.known.now log.up log.up_given c.place_after-to.result (log.up_given + give.result.0) give.new.session c.args.shelf.now give.new.shelf log.down give.new.down give.result.1
    (sym c.is_some.ensures ∙ c.if-is_some.false)
    (fed-passes c.args.known.now c.args.bytes log.up c.as_slice.result.now log.up_given c.len.result c.place_after-to.result give.result.0 c.in-Some.session give.new.session c.args.shelf.now give.new.shelf
    log.down give.new.down give.result.1 c.as_slice.ensures c.len.ensures c.place_after-to.ensures low has give.ensures.took give.ensures.all give.ensures.gives)

pub returns-clause-feeds : goal.returns-clause-feeds
returns-clause-feeds g c =
    let log = c.self.inside.log in
    let old : Connection = record { log = log; going = is_some c.self.inside.session } in
    let has : HasTaken (take log.up_given log.up) c.in-Some.session = subst (λ (o : Option SessionState). IfSome o (HasTaken (take log.up_given log.up))) c.in-Some.is c.self.invariant in
    let low : log.up_given ≤ length log.up = subst (λ (w : Connection). w.log.up_given ≤ length w.log.up) (sym c.self.view_is) c.requires in
    let give = c.give-taken in
    let place = c.place_after-to.ensures ∙ ap (up_to (plus (Some log.up_given) c.args.bytes)) c.len.ensures in
    let order : log.up_given ≤ c.place_after-to.result = subst (λ k. log.up_given ≤ k) (sym place) (place-low c.args.bytes log.up_given (length log.up) low) in
    let some : log.up_given < c.place_after-to.result = omega (arith, c.if-to-self.false) in
    let passes =
    fed-passes c.args.known.now c.args.bytes log.up c.as_slice.result.now log.up_given c.len.result c.place_after-to.result give.result.0 c.in-Some.session give.new.session c.args.shelf.now give.new.shelf
    log.down give.new.down give.result.1 c.as_slice.ensures c.len.ensures c.place_after-to.ensures low has give.ensures.took give.ensures.all give.ensures.gives in
    let end = c.server_end-self-inside.ensures (take (log.up_given + give.result.0) log.up) passes.taken in
    let more = λ (going : Bool).
    takes-more c.args.known.now c.args.bytes old c.if-is_some.self give.new.session c.args.shelf.now give.new.shelf give.new.down (log.up_given + give.result.0) c.place_after-to.result give.result.1 c.server_end-self-inside.result
    going place (ap is_some c.in-Some.is) c.has_digits.ensures some passes (c.is_starved.ensures c.if-is_starved.false) end in
    subst (λ (w : Connection). FeedsOne c.args.known.now c.args.bytes w c.if-is_some.self c.args.shelf.now give.new.shelf) c.self.view_is
    (elim c.if-is_some.branch [
      | then-is_some+in-Some-1 w ↦ more false (is-over give.result.1 (sym c.is_some.ensures ∙ w.if-is_some.true)) w.self-is
      | then-is_some+in-None-1 w ↦ more false (is-over give.result.1 (sym c.is_some.ensures ∙ w.if-is_some.true)) w.self-is
      | else-is_some w ↦ more true (goes-on give.result.1 (sym c.is_some.ensures ∙ w.if-is_some.false)) w.self-is
    ])
