-- What contracts see of a ring, and what its calls do to it.
use Rattle.std.specs.Prelude.{◌≡◌, ℕ, ◌*◌, ◌≤◌, ◌<◌, ◌^◌, ◌==◌, if◌then◌else◌, Bool, false, List, length, Option}
use Rattle.medium_model.specs.Images as images
use Rattle.medium_model.specs.Images.{IsSame}
use Rattle.medium_model.specs.State.{MediumState, IfTold}
use Rattle.medium_model.specs.PowerLoss.{EveryImage, WasImage}
use Rattle.flash_ring.specs.Held.{Held, AreSound, AreBelow, is_full}
use Rattle.flash_ring.specs.Slot.{IsFlash, slots_of}
use Rattle.flash_ring.specs.Images.{IsSettled, HoldsWith}

-- What contracts see: the medium, what each slot holds, the next sequence, and whether a medium fault took it down.
pub record RingView : Type 0 where
  pub medium : MediumState
  pub slots : List (Option Held)
  pub next : ℕ
  pub down : Bool

-- what is true of a ring that is up
pub record IsUp (v : RingView) : Type 0 where
  pub settled : IfTold v.medium.content (IsSettled (length v.slots) v.slots)
  pub sound : AreSound v.slots
  pub below : AreBelow v.next v.slots

-- what is true of each ring
pub record IsRing (v : RingView) : Type 0 where
  pub some : 0 < length v.slots
  pub few : length v.slots ≤ 4096
  pub ready : 272 * length v.slots ≤ v.medium.ready
  pub next : v.next ≤ 2 ^ 63
  pub up : v.down ≡ false → IsUp v

-- each image of the ring's medium is a sound flash of its size, and what that holds has P
abbrev pub EachHolds : RingView → (List (Option Held) → Type 0) → Type 0
EachHolds v P = EveryImage v.medium.content (HoldsWith (length v.slots) P)

-- The ring is up; what is read is durable and holds its slots, and so a power loss leaves them as they are.
pub record IsDurable (v : RingView) : Type 0 where
  pub up : v.down ≡ false
  pub medium : images.IsDurable (IsFlash (length v.slots)) (slots_of (length v.slots)) (IsSame v.slots) v.medium
  pub sound : AreSound v.slots
  pub below : AreBelow v.next v.slots

-- a power loss may leave an image of these slots
pub record MayHold (v : RingView) (left : List (Option Held)) : Type 0 where
  pub image : List ℕ
  pub was : WasImage v.medium.content image
  pub holds : slots_of (length v.slots) image ≡ left

-- each image is a sound flash of the ring's size
abbrev pub EverySound : RingView → Type 0
EverySound v = EveryImage v.medium.content (IsFlash (length v.slots))

-- the medium calls of a `put`: none where the next sequence is at its end
abbrev pub put_calls : RingView → ℕ
put_calls v = if v.next == 2 ^ 63 then 0 else 4

-- the medium calls that make room
abbrev pub room_calls : RingView → ℕ
room_calls v = if is_full v.slots then 2 else 0
