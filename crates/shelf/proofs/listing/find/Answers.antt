use Rattle.std.proofs.Common.{ℕ, ◌∙◌, ap, refl}
use Rattle.avl_values.specs.Record.{Record}
use Rattle.shelf.specs.Index.{place_in, digest_for}
use Rattle.shelf.proofs.Indexed.{passed-more, passed-free, passed-new, found-at, number-is}
use Rattle.shelf.proofs.listing.find.Goals as goal

pub loop-step-preserved : goal.loop-step-preserved
loop-step-preserved c =
    passed-more c.args.list.now (place_in c.args.places.now) c.args.imei (record { codec = c.args.codec; bytes = c.args.bytes.now }) c.loop-step.step _ c.in-Some.place c.loop-step.invariant refl
    (found-at c.args.places.now _ _ _ _ _ _ _ _ c.number.ensures.value c.digest-first.ensures c.copied.ensures c.get.ensures.value c.in-Some.is) (c.is_at.ensures.no c.if-is_at.false)

pub returns-in-None : goal.returns-in-None
returns-in-None c =
    let none = found-at c.args.places.now _ _ c.args.imei _ c.loop-step.step _ _ _ c.number.ensures.value c.digest-first.ensures c.copied.ensures c.get.ensures.value c.in-None.is in
    let r : Record = record { codec = c.args.codec; bytes = c.args.bytes.now } in
    let is = number-is c.digest-first.result (digest_for r) c.loop-step.step c.digest-first.ensures in
    let free = ap (λ (n : ℕ). place_in c.args.places.now (c.args.imei, n)) is ∙ none in (
      passed-new c.args.list.now (place_in c.args.places.now) c.args.imei r c.loop-step.step _ c.requires c.loop-step.invariant is free,
      passed-free c.args.list.now (place_in c.args.places.now) c.args.imei r c.loop-step.step _ c.loop-step.invariant is free,
    )
