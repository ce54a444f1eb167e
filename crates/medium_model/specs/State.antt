-- What contracts see of a medium. Its content stands there where it tells it; of a real file nothing is told.
use Rattle.std.specs.Prelude.{◌≡◌, ℕ, ◌≤◌, List, Option, Some, None, IsSome}
use Rattle.avl_values.specs.Causes.{Rose}
use Rattle.medium_model.specs.CallsLeft.{CallsLeft, unlimited, less, Passes, Fails}
use Rattle.medium_model.specs.Content.{Content, FailedWrite, settled}
use Rattle.medium_model.specs.PowerLoss.{WasImage}

pub record MediumState : Type 0 where
  pub content : Option Content
  pub left : CallsLeft
  -- writes up to this place need no memory
  pub ready : ℕ
  -- how often it has failed
  pub faults : ℕ

-- what a call does to the content, where it is told
abbrev pub told : (Content → Content) → Option Content → Option Content
told f None = None
told f (Some c) = Some (f c)

-- a fact of the content, where it is told
abbrev pub IfTold : Option Content → (Content → Type 0) → Type 0
IfTold None P = Unit {0}
IfTold (Some c) P = P c

-- a write of n bytes that failed
abbrev pub TornWrite : ℕ → ℕ → Option Content → Option Content → Type 0
TornWrite at n None new = new ≡ None
TornWrite at n (Some old) new = (c : Content) × (new ≡ Some c) × FailedWrite at n old c

-- What a run of n calls of `len`, `read`, `write` and `sync` keeps to, whatever it does to the content: it ends at the
-- first that fails, and has failed where one of them did.
pub record Counted (n : ℕ) (old new : MediumState) (failed : Type 0) : Type 0 where
  pub ready : old.ready ≤ new.ready
  pub later : old.faults ≤ new.faults
  pub cause : failed → Rose old.faults new.faults
  pub left : new.left ≡ less n old.left
  pub passes : Passes n old.left → failed → ⊥
  pub fails : Fails n old.left → failed
  -- what was told stays told
  pub told : IsSome old.content → IsSome new.content

-- a run of some calls, at least one, whose number isn't said
pub record CountedSome (old new : MediumState) (failed : Type 0) : Type 0 where
  pub calls : ℕ
  pub some : 1 ≤ calls
  pub counted : Counted calls old new failed

-- a run of calls, maybe of none, whose number isn't said
pub record CountedMaybe (old new : MediumState) (failed : Type 0) : Type 0 where
  pub calls : ℕ
  pub counted : Counted calls old new failed

-- The power came back: what is read is an image that the power loss might have left, and all of it is durable.
pub record IsRestarted (old new : Option Content) : Type 0 where
  pub image : List ℕ
  pub was : WasImage old image
  pub is : new ≡ Some (settled image)

-- A run of calls, with or without a `reserve`: its counts, and what it is where none will fail.
pub record IsRun (old new : MediumState) (failed : Type 0) : Type 0 where
  pub ready : old.ready ≤ new.ready
  pub later : old.faults ≤ new.faults
  pub cause : failed → Rose old.faults new.faults
  pub never : old.left ≡ unlimited → failed → ⊥
  pub left : old.left ≡ unlimited → new.left ≡ unlimited
  pub told : IsSome old.content → IsSome new.content
