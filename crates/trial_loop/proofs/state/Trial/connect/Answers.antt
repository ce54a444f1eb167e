-- A connection, under the fuses of both ends.
use Rattle.std.proofs.Common.{◌∙◌, List, [], ◌∷◌, ◌++◌, is_some, ap, subst, arith, eqb-true}
use Rattle.trial_device.specs.Fuses.{calls_of}
use Rattle.trial_play.specs.ServerLines.{EndsLine}
use Rattle.trial_wire.specs.Connections.{Connection}
use Rattle.trial_loop.proofs.OneSides.{CanConnect}
use Rattle.trial_loop.proofs.Stepping.{connect-fits, connect-goes, connect-placed, connect-up, is-at}
use Rattle.trial_loop.proofs.state.Trial.connect.Goals as goal

pub unreachable-requires : goal.unreachable-requires
unreachable-requires g c =
    connect-placed c.requires.next.0 _ _ c.args.self (c.trial.view_is ∙ c.begin.ensures) c.requires.next.1 c.requires.next.2 c.as_slice.result.now c.as_slice.ensures.value c.in_default.ensures.none

fits : (g : _) (c : goal.After-index_mut g) → CanConnect c.index_mut.result.now
fits g c =
    connect-fits c.requires.next.0 _ c.args.self c.args.line.imei c.in-Some.place c.index_mut.result.now (c.trial.view_is ∙ c.begin.ensures) c.requires.next.2
    (is-at c.args.line.imei c.trial.inside.sides.items c.as_slice.result.now c.in-Some.place c.index_mut.result.now c.as_slice.ensures.value c.in-Some.ensures.found c.index_mut.ensures.value)

pub round-requires-clause-own : goal.round-requires-clause-own
round-requires-clause-own g c =
    let at = is-at c.args.line.imei c.trial.inside.sides.items c.as_slice.result.now c.in-Some.place c.index_mut.result.now c.as_slice.ensures.value c.in-Some.ensures.found c.index_mut.ensures.value in
    eqb-true c.index_mut.result.now.device.imei c.args.line.imei at.has

pub round-requires-clause-durable : goal.round-requires-clause-durable
round-requires-clause-durable g c = (fits g c).durable

pub round-requires-clause-idle : goal.round-requires-clause-idle
round-requires-clause-idle g c = (fits g c).idle

pub round-requires-clause-few : goal.round-requires-clause-few
round-requires-clause-few g c = let few = (fits g c).few in omega (arith, few)

pub round-requires-clause-shelf : goal.round-requires-clause-shelf
round-requires-clause-shelf g c = connect-up c.requires.next.0 _ c.args.self (c.trial.view_is ∙ c.begin.ensures) c.requires.next.2

pub returns : goal.returns
returns g c =
    connect-goes _ c.args.self c.end.new.self (c.trial.view_is ∙ c.begin.ensures) (record { imei = c.args.line.imei; drains = c.args.line.drains; up = c.args.line.up; down = c.args.line.down })
    c.in-Some.place c.index_mut.result.now c.round.new.side
    (is-at c.args.line.imei c.trial.inside.sides.items c.as_slice.result.now c.in-Some.place c.index_mut.result.now c.as_slice.ensures.value c.in-Some.ensures.found c.index_mut.ensures.value)
    c.in_ok-log.field-0.log (is_some c.in_ok-log.field-0.session) (is_some c.if_half_open.result) c.in_ok-log.field-0.shelf c.in_ok-log.ensures.rounds c.if_half_open.ensures.going c.in_ok-end.ensures.sides
    (subst (λ (ws : List Connection). EndsLine (calls_of c.trial.inside.fuse) ws c.end.new.self.trial.connections c.in_ok-log.field-0.shelf c.end.new.self.trial.shelf)
    (c.in_ok-push.ensures ∙ ap (λ (w : Connection). c.trial.inside.connections ++ w ∷ []) c.new.ensures) c.in_ok-end.ensures.ends)
    c.in_ok-end.ensures.fuse (c.in_ok-end.ensures.known ∙ c.in_ok-log.ensures.known)
