-- What holds of what a power loss may leave of a ring.
use Rattle.std.proofs.Common.{◌≡◌, ◌≤◌, List, length, Option, IsSome, sym, subst}
use Rattle.medium_model.specs.Images.{IsSame}
use Rattle.medium_model.specs.PowerLoss.{EveryImage, WasImage}
use Rattle.medium_model.proofs.Images.{every-at, every-map}
use Rattle.flash_ring.specs.Held.{Held, next_of}
use Rattle.flash_ring.specs.Images.{HoldsWith}
use Rattle.flash_ring.specs.Ring.{EachHolds, EverySound, IsDurable, RingView}
use Rattle.flash_ring.specs.Slot.{IsFlash}
use Rattle.flash_ring.proofs.Closes.{holds-map}
use Rattle.flash_ring.proofs.HeldRecords.{next_of-least}
use Rattle.flash_ring.proofs.Sequences.{restart-has}
use Rattle.trial_device.specs.SideLines.{RestartsRing}

pub each-weaker : (v : RingView) (P Q : List (Option Held) → Type 0) → ((left : List (Option Held)) → P left → Q left) → EachHolds v P → EachHolds v Q
each-weaker v P Q so every = holds-map (length v.slots) v.medium.content P Q so every

-- the images of a durable ring hold its slots
pub durable-each : (v : RingView) (P : List (Option Held) → Type 0) → IsDurable v → P v.slots → EachHolds v P
durable-each v P durable at = each-weaker v (IsSame v.slots) P (λ left same. subst P (sym same) at) durable.medium.same

-- where no image is added, each holds what each held
pub every-was : (P Q : List (Option Held) → Type 0) (v w : RingView) → IsSome v.medium.content → length w.slots ≡ length v.slots → EveryImage w.medium.content (WasImage v.medium.content)
    → ((left : List (Option Held)) → P left → Q left) → EachHolds v P → EachHolds w Q
every-was P Q v w told size images so every =
    every-map w.medium.content (WasImage v.medium.content) (HoldsWith (length w.slots) Q)
    (λ image was. subst (λ n. HoldsWith n Q image) (sym size) (every-at v.medium.content (HoldsWith (length v.slots) Q) image told (each-weaker v P Q so every) was))
    images

pub each-sound : (v : RingView) (P : List (Option Held) → Type 0) → EachHolds v P → EverySound v
each-sound v P every = every-map v.medium.content (HoldsWith (length v.slots) P) (IsFlash (length v.slots)) (λ image holds. holds.sound) every

pub below-next : (v : RingView) → IsDurable v → next_of v.slots ≤ v.next
below-next v durable = next_of-least v.next v.slots durable.below

-- what each image holds is true of the slots after a restart
pub restart-holds : (w v : RingView) (P : List (Option Held) → Type 0) → RestartsRing w v → EachHolds w P → P v.slots
restart-holds w v P restarts every = restart-has w P v.slots restarts.told every restarts.may
