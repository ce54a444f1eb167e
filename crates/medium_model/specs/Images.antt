-- Words on images for the layers above. A layer says which images are sound, and what such an image means there: a ring's is
-- some sound slots, and means what these hold; an archive's begins with its mark, and means its entries.
use Rattle.std.specs.Prelude.{◌≡◌, ℕ, List, Option, Some}
use Rattle.medium_model.specs.Content.{Content, settled}
use Rattle.medium_model.specs.PowerLoss.{EveryImage}
use Rattle.medium_model.specs.State.{MediumState, IfTold}

-- an image is sound, and what it means has P
pub record HoldsWith {T : Type 0} (IsSound : List ℕ → Type 0) (meaning : List ℕ → T) (P : T → Type 0) (image : List ℕ) : Type 0 where
  pub sound : IsSound image
  pub holds : P (meaning image)

-- each image that a power loss now may leave is sound, and what it means has P
abbrev pub EachHolds : {T : Type 0} → (List ℕ → Type 0) → (List ℕ → T) → (T → Type 0) → MediumState → Type 0
EachHolds IsSound meaning P m = EveryImage m.content (HoldsWith IsSound meaning P)

-- the same as before
abbrev pub IsSame : {T : Type 0} → T → T → Type 0
IsSame before left = left ≡ before

-- as before, or as after
pub data IsEither {T : Type 0} (before after left : T) : Type 0 where
  unchanged : left ≡ before → IsEither before after left
  changed : left ≡ after → IsEither before after left

-- what was told has P
pub record IsTold {T : Type 0} (P : Option T → Type 0) (left : T) : Type 0 where
  pub is : P (Some left)

-- All that is read is durable; it is sound, and what it means has P.
pub record IsSettled {T : Type 0} (IsSound : List ℕ → Type 0) (meaning : List ℕ → T) (P : T → Type 0) (c : Content) : Type 0 where
  pub rest : c ≡ settled c.reads
  pub sound : IsSound c.reads
  pub holds : P (meaning c.reads)

-- A power loss leaves what is read, all of it durable and sound, and what that means has P.
pub record IsDurable {T : Type 0} (IsSound : List ℕ → Type 0) (meaning : List ℕ → T) (P : T → Type 0) (m : MediumState) : Type 0 where
  pub same : EachHolds IsSound meaning P m
  pub settled : IfTold m.content (IsSettled IsSound meaning P)
