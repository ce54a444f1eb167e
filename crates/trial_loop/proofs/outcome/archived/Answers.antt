use Rattle.std.proofs.Common.{rules, ◌+◌, ◌<◌, ◌∷◌, [], ◌++◌, List, drop, get_or, length, sym, ◌∙◌, ap, subst}
use Rattle.avl_values.specs.Record.{Record}
use Rattle.shelf.specs.Archive.{StoredValue, places_of, recs_for}
use Rattle.trial_loop.proofs.Archived.{IsCopying, copied-all, copying-at, copying-first}
use Rattle.trial_loop.proofs.outcome.archived.Goals as goal

pub loop-place-init : goal.loop-place-init
loop-place-init g c =
    copying-first c.list-stored.result.now c.args.imei c.new-list.result c.deref-place-items.result.now c.new-list.ensures
    (c.deref-place-items.ensures.value ∙ (c.in_ok-places.ensures ∙ ap (λ (l : List StoredValue). places_of l c.args.imei) (sym c.list-stored.ensures.value)))

pub bounds-stored-place : goal.bounds-stored-place
bounds-stored-place g c =
    (copying-at c.list-stored.result.now c.args.imei c.loop-place.list c.deref-place-items.result.now c.loop-place.place-index c.loop-place-test.true c.loop-place.invariant).within

pub offset_bounds-stored-place : goal.offset_bounds-stored-place
offset_bounds-stored-place g c =
    let low : get_or c.deref-place-items.result.now c.loop-place.place-index 0 < length c.list-stored.result.now =
    (copying-at c.list-stored.result.now c.args.imei c.loop-place.list c.deref-place-items.result.now c.loop-place.place-index c.loop-place-test.true c.loop-place.invariant).within in
    search rules

pub loop-place-preserved : goal.loop-place-preserved
loop-place-preserved g c =
    let next = copying-at c.list-stored.result.now c.args.imei c.loop-place.list c.deref-place-items.result.now c.loop-place.place-index c.loop-place-test.true c.loop-place.invariant in
    subst (λ (l : List Record). IsCopying c.list-stored.result.now c.args.imei l (drop (c.loop-place.place-index + 1) c.deref-place-items.result.now))
    (sym (c.in_ok-push.ensures.ok ∙ ap (λ (r : Record). c.loop-place.list ++ r ∷ []) (c.in_ok-try_clone.ensures ∙ c.rec.ensures.value)))
    (next.next c.index-stored-place.result c.index-stored-place.is)

pub returns : goal.returns
returns g c =
    copied-all c.list-stored.result.now c.args.imei c.loop-place.list c.deref-place-items.result.now c.loop-place.place-index c.loop-place-test.false c.loop-place.invariant
    ∙ ap (recs_for c.args.imei) c.list-stored.ensures.value
