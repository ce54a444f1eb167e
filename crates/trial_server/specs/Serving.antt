-- What a session does to the shelf on one line: the frames that it hears are admitted one after the other.
use Rattle.std.specs.Prelude.{◌≡◌, ◌⊎◌, ℕ, Bool, true, false, List, [], ◌∷◌, Ok, Err, Option, Some, None, IsSome, length, take, ◌-◌, if◌then◌else◌}
use Rattle.avl_values.specs.Record.{Record}
use Rattle.medium_model.specs.CallsLeft.{CallsLeft, after, unlimited}
use Rattle.record_layout.specs.RecordsOf.{records_of}
use Rattle.shelf.specs.Shelf.{IsDurable, IsRestarted, Leaves, ShelfView}
use Rattle.shelf.specs.declared.receipt.Receipt.{Receipt}
use Rattle.shelf.specs.declared.receipt.AdmitFault.TheVariants.{MediumFault}
use Rattle.trial_model.specs.Frames.{Frame}

-- A packet of these records was admitted.
pub record IsAdmitted (imei : ℕ) (rs : List Record) (old new : ShelfView) : Type 0 where
  pub body : List ℕ
  pub records : records_of body ≡ rs
  pub receipt : Receipt
  pub leaves : Leaves old imei body (Ok receipt) new

-- The medium failed in it.
pub record IsRefused (imei : ℕ) (rs : List Record) (old new : ShelfView) : Type 0 where
  pub body : List ℕ
  pub records : records_of body ≡ rs
  pub faults : ℕ
  pub leaves : Leaves old imei body (Err (MediumFault faults)) new

-- These frames were handed to the shelf one after the other, each with a receipt, but the last where the medium failed.
abbrev pub Serves : ℕ → Bool → List Frame → ShelfView → ShelfView → Type 0
Serves imei failed [] old new = (failed ≡ false) × (new ≡ old)
Serves imei failed (f ∷ fs) old new = ((mid : ShelfView) × IsAdmitted imei f.records old mid × Serves imei failed fs mid new)
    ⊎ ((failed ≡ true) × (fs ≡ []) × IsRefused imei f.records old new)

-- those that have a receipt
abbrev pub receipted : Bool → List Frame → List Frame
receipted failed fs = if failed then take (length fs - 1) fs else fs

-- the calls that a fuse leaves to the medium
abbrev pub left_by : Option ℕ → CallsLeft
left_by None = unlimited
left_by (Some k) = after k

-- the shelf, its medium armed where a fuse waits
abbrev pub armed : Option ℕ → ShelfView → ShelfView
armed None v = v
armed (Some k) v = record v { medium = record v.medium { left = after k } }

-- The server's power loss and power-up: the shelf is up over one of the images, of a medium that told its content.
pub record Restarts (old new : ShelfView) : Type 0 where
  pub restarted : IsRestarted old new
  pub durable : IsDurable new
  pub told : IsSome old.medium.content
