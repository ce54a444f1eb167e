-- One call more than those after the first.
use Rattle.std.proofs.Common.{◌+◌, refl, arith, rules}
use Rattle.std.proofs.lemmas.Bool.{false≢true}
use Rattle.medium_model.proofs.Images.{counted-then, counted-as}
use Rattle.flash_ring.proofs.load.load.Goals as goal

pub returns-in_err-got-clause-counted : goal.returns-in_err-got-clause-counted
returns-in_err-got-clause-counted g c = record {
  calls = 2;
  some = omega arith;
  counted = counted-as refl (λ _. refl) (λ _. search rules)
      (counted-then (counted-as refl (λ f. absurd f) false≢true c.in_ok-sync.ensures.counted) c.in_err-got.ensures.counted);
}

pub returns-then-got-wanted-clause-counted : goal.returns-then-got-wanted-clause-counted
returns-then-got-wanted-clause-counted g c = record {
  calls = 2;
  some = omega arith;
  counted = counted-as refl (λ e. cc) (λ e. absurd (false≢true e))
      (counted-then (counted-as refl (λ f. absurd f) false≢true c.in_ok-sync.ensures.counted) c.in_ok-got.ensures.counted);
}

pub returns-clause-counted : goal.returns-clause-counted
returns-clause-counted g c = record {
  calls = 2 + c.read_slots.ensures.counted.calls;
  some = omega arith;
  counted = counted-then (counted-then (counted-as refl (λ f. absurd f) false≢true c.in_ok-sync.ensures.counted) (counted-as refl (λ f. absurd f) false≢true c.in_ok-got.ensures.counted))
      c.read_slots.ensures.counted.counted;
}
