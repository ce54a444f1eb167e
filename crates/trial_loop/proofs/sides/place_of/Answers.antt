-- Each side before this place has another IMEI.
use Rattle.std.proofs.Common.{◌==◌, ℕ, sym, ◌∙◌, ap, arith}
use Rattle.std.proofs.lemmas.Option.{slice_get_within}
use Rattle.trial_loop.proofs.Stepping.{none-more, there}
use Rattle.trial_loop.proofs.sides.place_of.Goals as goal

pub loop-place-init : goal.loop-place-init
loop-place-init g c = λ n d low at. absurd (omega (arith, low))

pub returns-then-eq-clause-found : goal.returns-then-eq-clause-found
returns-then-eq-clause-found g c = record {
  within = c.loop-place-test.true;
  side = c.index-sides-place.result;
  here = there c.args.sides.now c.loop-place.place c.index-sides-place.result c.loop-place-test.true c.index-sides-place.is;
  has = ap (λ (i : ℕ). i == c.args.imei) (sym c.imei.ensures) ∙ sym c.eq.ensures ∙ c.if-eq.true;
}

pub loop-place-preserved : goal.loop-place-preserved
loop-place-preserved g c =
    none-more c.args.imei c.args.sides.now c.loop-place.place c.index-sides-place.result c.loop-place.invariant c.loop-place-test.true c.index-sides-place.is
    (ap (λ (i : ℕ). i == c.args.imei) (sym c.imei.ensures) ∙ sym c.eq.ensures ∙ c.if-eq.false)

pub returns-clause-none : goal.returns-clause-none
returns-clause-none g c = λ n d at. c.loop-place.invariant n d (let low = slice_get_within c.args.sides.now n d at in omega (arith, low, c.loop-place-test.false)) at
