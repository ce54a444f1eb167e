-- Steps of loops that look for a session, or a worker.
use Rattle.std.proofs.Common.{◌≡◌, Bool, true, false, refl, sym, ◌∙◌, ap, inl, inr}
use Rattle.std.specs.Prelude.{◌||◌, ◌⊎◌}

-- the first isn't one, so whether there is one is whether there is one after it
pub none_here : (all this rest now : Bool) → all ≡ now → now ≡ (this || rest) → this ≡ false → all ≡ rest
none_here all this rest now whole is none = whole ∙ (is ∙ ap (λ b. b || rest) none)

-- the first is one
pub one_here : (all this rest now : Bool) → all ≡ now → now ≡ (this || rest) → this ≡ true → true ≡ all
one_here all this rest now whole is one = sym (whole ∙ (is ∙ ap (λ b. b || rest) one))

-- neither of both
pub neither : (a b : Bool) → (a || b) ≡ false → (a ≡ false) × (b ≡ false)
neither true b none = absurd (let never : true ≡ false = none in cc)
neither false b none = (refl, none)

-- one of both
pub either : (a b : Bool) → (a || b) ≡ true → (a ≡ true) ⊎ (b ≡ true)
either true b one = inl refl
either false b one = inr one
