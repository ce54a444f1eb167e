use Rattle.std.proofs.Common.{◌-◌, List, set, refl, subst, arith}
use Rattle.std.proofs.lemmas.Option.{slice_get_read}
use Rattle.std.proofs.lemmas.Result.{on_ok_weaker}
use Rattle.trial_wire.specs.Connections.{Connection}
use Rattle.trial_loop.specs.Feeding.{FeedsNumber, feeds}
use Rattle.trial_loop.proofs.Opened.{at-set}
use Rattle.trial_loop.proofs.connections.Connections.feed.Goals as goal

pub invariant_of-self : goal.invariant_of-self
invariant_of-self g c =
    let all = c.self.inside.all in
    at-set c.self.inside.places.items all.items (c.args.number - 1) c.feed.new.self c.index_mut.result.now
    (slice_get_read all.items c.len.result (c.args.number - 1) c.index_mut.result.now (omega (arith, c.len.ensures, all.ok.0)) (omega arith) c.index_mut.ensures.value)
    c.feed.ensures.over c.self.invariant

pub returns : goal.returns
returns g c =
    let all = c.self.inside.all in
    let at = slice_get_read all.items c.len.result (c.args.number - 1) c.index_mut.result.now (omega (arith, c.len.ensures, all.ok.0)) (omega arith) c.index_mut.ensures.value in
    on_ok_weaker c.feed.result (λ f.
    subst (λ (ws : List Connection). FeedsNumber c.args.known.now c.args.number c.args.bytes ws (set all.items (c.args.number - 1) c.feed.new.self) c.args.shelf.now c.feed.new.shelf) c.self.view_is
    (feeds (c.args.number - 1) c.index_mut.result.now c.feed.new.self (omega arith) at f refl)) c.feed.ensures.feeds
