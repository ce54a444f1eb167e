-- How the medium's calls go within a line.
use Rattle.std.proofs.Common.{◌≡◌, inl, inr, ℕ, ◌+◌, ◌-◌, ◌*◌, ◌<◌, ◌≤◌, true, false, Option, Some, None, refl, sym, ap, ◌∙◌, arith, subst}
use Rattle.std.proofs.lemmas.Bool.{cases_lt, false≢true}
use Rattle.medium_model.specs.CallsLeft.{CallsLeft, Fails, Passes, after, less}
use Rattle.medium_model.specs.State.{Counted, MediumState}
use Rattle.medium_model.proofs.Images.{less-over, less-within}
use Rattle.trial_model.specs.Cover.{IsBelow}
use Rattle.trial_device.specs.Midway.{IsPaced}

-- a store passed: it made at least four calls
pub pace-passed : (cover : Option ℕ) (number cost n most : ℕ) (l k : MediumState) → IsPaced cover number cost false l.left → Counted n l k (false ≡ true) → 4 ≤ n → n ≤ most
    → IsPaced cover (number + 1) (cost + most) false k.left × (IsBelow cover (4 * (number + 1)) → ⊥)
pace-passed None number cost n most l k paced counted low high = ((refl, counted.left ∙ ap (less n) paced.1), λ below. below)
pace-passed (Some calls) number cost n most l k paced counted low high =
    let used = paced.0 in
    let left : l.left ≡ after (calls - used) = paced.1 in
    let within : used ≤ calls = paced.2 in
    let slow : 4 * number ≤ used = paced.3 in
    let cheap : used ≤ cost = paced.4 in
    let passes : n ≤ calls - used = elim (cases_lt (calls - used) n) as (λ _. n ≤ calls - used) [
      | inl over ↦ absurd (false≢true (counted.fails (subst (Fails n) (sym left) over)))
      | inr enough ↦ enough
    ] in
    let now : k.left ≡ after (calls - used - n) = counted.left ∙ ap (less n) left ∙ less-within n (calls - used) passes in
    let rest : calls - used - n ≡ calls - (used + n) = omega arith in
    ((used + n, now ∙ ap after rest, omega arith, omega arith, omega arith), λ below. omega (arith, below))

-- a call of a store failed: it was covered, by a fuse below its cost
pub pace-failed : (cover : Option ℕ) (number cost n most : ℕ) (l k : MediumState) → IsPaced cover number cost false l.left → Counted n l k (true ≡ true) → n ≤ most
    → IsPaced cover (number + 1) (cost + most) true k.left × IsBelow cover (cost + most)
pace-failed None number cost n most l k paced counted high = absurd (counted.passes (subst (Passes n) (sym paced.1) tt) refl)
pace-failed (Some calls) number cost n most l k paced counted high =
    let used = paced.0 in
    let left : l.left ≡ after (calls - used) = paced.1 in
    let within : used ≤ calls = paced.2 in
    let cheap : used ≤ cost = paced.4 in
    let fails : calls - used < n = elim (cases_lt (calls - used) n) as (λ _. calls - used < n) [
      | inl over ↦ over
      | inr enough ↦ absurd (counted.passes (subst (Passes n) (sym left) enough) refl)
    ] in
    let below : calls < cost + most = omega arith in
    ((counted.left ∙ ap (less n) left ∙ less-over n (calls - used) fails, below), below)

-- each store after it fails too
pub pace-later : (cover : Option ℕ) (number cost most : ℕ) (l : CallsLeft) → IsPaced cover number cost true l → IsPaced cover (number + 1) (cost + most) true l × IsBelow cover (cost + most)
pace-later None number cost most l paced = absurd (false≢true (sym paced.0))
pace-later (Some calls) number cost most l paced = let below : calls < cost + most = omega (arith, paced.1) in ((paced.0, below), below)
