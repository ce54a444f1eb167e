-- Opening a device's flash: what formatting leaves, and why a flash isn't opened.
use Rattle.std.proofs.Common.{◌≡◌, ℕ, List, [], Option, Some, None, ◌∙◌}
use Rattle.flash_ring.specs.Slot.{IsFlash, slots_of}
use Rattle.medium_model.proofs.Images.{run-as}
use Rattle.medium_model.specs.Content.{Content}
use Rattle.flash_ring.specs.Held.{Held}
use Rattle.medium_model.specs.Images.{IsSame, IsSettled}
use Rattle.medium_model.specs.State.{IfTold, IsRun, MediumState}

-- a run that did not fail
pub run_passed : {a b : MediumState} {failed : Type 0} → IsRun a b failed → IsRun a b ⊥
run_passed run = run-as (λ never. absurd never) run

-- what was held is held again
pub held_again : (o : Option Content) (n : ℕ) (old new : List (Option Held)) → IfTold o (IsSettled (IsFlash n) (slots_of n) (IsSame old)) → IfTold o (λ c. new ≡ slots_of n c.reads) → IfTold o (λ c. new ≡ old)
held_again None n old new rest holds = tt
held_again (Some c) n old new rest holds = holds ∙ rest.holds
