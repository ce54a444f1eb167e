use Rattle.std.proofs.Common.{◌≡◌, ◌++◌, drop, ap, sym, ◌∙◌, arith, refl}
use Rattle.std.proofs.lemmas.List.{length-set}
use Rattle.avl_values.specs.Imei.{decimal_places}
use Rattle.avl_values.proofs.Places.{places-none, written-more}
use Rattle.avl_values.proofs.imei.Imei.digits.Goals as goal

pub loop-i-preserved : goal.loop-i-preserved
loop-i-preserved c = (
  rw length-set c.loop-i.invariant.0,
  written-more c.loop-i.i c.loop-i.rest _ c.loop-i.digits (omega arith) (omega arith) c.loop-i.invariant.1,
)

pub returns : goal.returns
returns c =
    let none : c.loop-i.i ≡ 0 = omega arith in
    sym (c.loop-i.invariant.1 ∙ ap (λ k. decimal_places k c.loop-i.rest ++ drop k c.loop-i.digits) none ∙ rw (places-none c.loop-i.rest) refl)
