-- What a power loss may leave of a medium (this project's own model of a flash or a file whose power may be cut).
use Rattle.std.specs.Prelude.{◌≡◌, ℕ, ◌<◌, ◌≤◌, max, false, List, length, get_or, Option, Some, None}
use Rattle.medium_model.specs.Content.{Content}

-- A power loss may leave this image.
pub record IsImage (c : Content) (image : List ℕ) : Type 0 where
  pub no_shorter : length c.durable ≤ length image
  pub no_longer : length image ≤ max (length c.durable) (length c.dirty)
  pub stays : (k : ℕ) → k < length c.durable → get_or c.dirty k false ≡ false → get_or image k 0 ≡ get_or c.durable k 0

-- each image that a power loss now may leave has P, where the content is told
abbrev pub EveryImage : Option Content → (List ℕ → Type 0) → Type 0
EveryImage None P = Unit {0}
EveryImage (Some c) P = (image : List ℕ) → IsImage c image → P image

-- a power loss might have left this image then, where the content was told
abbrev pub WasImage : Option Content → List ℕ → Type 0
WasImage None image = Unit {0}
WasImage (Some c) image = IsImage c image
